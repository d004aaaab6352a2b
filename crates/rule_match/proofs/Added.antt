-- The lines of each group after one of the groups has other lines.
use Rattle.std.proofs.Common.{◌≡◌, ℕ, Bool, true, false, [], ◌∷◌, ◌++◌, Option, cond, if◌then◌else◌, refl, sym, ap, ◌∙◌}
use Rattle.std.proofs.lemmas.List.{append-nil}
use Rattle.std.specs.Global.{Vec}
use Rattle.std.specs.HashMap as hash
use Rattle.rule_match.specs.Group.{same_group}
use Rattle.rule_match.specs.LineTable.{LineTable, lines_at, lines_in}
use Rattle.rule_match.specs.SameGroup.{same_group-true}
use Rattle.rule_match.specs.declared.group.Group.{Group}

module _ (m n : LineTable) (k : Group) (old new : Option (Vec ℕ))
    (at : hash.get same_group m k ≡ old)
    (updates : (g : Group) → hash.get same_group n g
    ≡ cond (same_group k g) new (hash.get same_group m g)) (g : Group) where
  old_lines : same_group k g ≡ true → old ≡ hash.get same_group m g
  old_lines same = sym at ∙ ap (hash.get same_group m) (same_group-true k g same)

  pub line_added : (line : ℕ) → lines_in new ≡ lines_in old ++ line ∷ []
      → lines_at n g ≡ lines_at m g ++ (if same_group k g then line ∷ [] else [])
  line_added line more = choose (same_group k g) refl (updates g) where
    choose : (b : Bool) → same_group k g ≡ b
        → hash.get same_group n g ≡ cond b new (hash.get same_group m g)
        → lines_at n g ≡ lines_at m g ++ (if b then line ∷ [] else [])
    choose true same is =
        ap lines_in is ∙ more
        ∙ ap (λ (o : Option (Vec ℕ)). lines_in o ++ line ∷ []) (old_lines same)
    choose false same is = ap lines_in is ∙ sym (append-nil (lines_at m g))

  pub lines_kept : lines_in new ≡ lines_in old → lines_at n g ≡ lines_at m g
  lines_kept kept = choose (same_group k g) refl (updates g) where
    choose : (b : Bool) → same_group k g ≡ b
        → hash.get same_group n g ≡ cond b new (hash.get same_group m g)
        → lines_at n g ≡ lines_at m g
    choose true same is = ap lines_in is ∙ kept ∙ ap lines_in (old_lines same)
    choose false same is = ap lines_in is

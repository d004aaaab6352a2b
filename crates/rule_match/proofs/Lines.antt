-- The lines of a group, as a walk passes them.
use Rattle.std.proofs.Common.{◌≡◌, ◌≢◌, ℕ, zero, suc, ◌+◌, ◌-◌, ◌<◌, ◌≤◌, ◌⊎◌, inl, inr, Bool, true, false, List, [], ◌∷◌, ◌++◌, length, drop, Option, Some, None, cond, refl, sym, ap, ◌∙◌, arith, ne_eqb, eq-eqb}
use Rattle.std.proofs.lemmas.Bool.{cases_eq}
use Rattle.std.proofs.lemmas.Bool.Decides.{nat_tests}
use Rattle.std.proofs.lemmas.Option.{none-some, same_Some}
use Rattle.std.specs.Prelude.{nat_lt, slice_get}
use Rattle.policy_rules.specs.RuleValue.{RuleValue}
use Rattle.rule_match.specs.Group.{same_group}
use Rattle.rule_match.specs.Groups.{earlier_of, group_of, lines_after, lines_from}
use Rattle.rule_match.specs.declared.group.Group.{Group}

-- the first of the lines
abbrev pub head_of : List ℕ → Option ℕ
head_of lines = slice_get lines 0

-- passing a line that isn't the group's first one changes nothing
after_other : (line : ℕ) (lines : List ℕ) → ((l : ℕ) → head_of lines ≡ Some l → l ≢ line)
    → lines_after line lines ≡ lines
after_other line [] other = refl
after_other line (l ∷ lines) other =
    ap (λ (b : Bool). cond b lines (l ∷ lines)) (ne_eqb l line (other l refl))

module _ (g : Group) where
  -- the first line of a group is one of the lines of the rules
  pub head_within : (k : ℕ) (rules : List RuleValue) (l : ℕ) → head_of (lines_from g k rules)
      ≡ Some l → (k ≤ l) × (l < k + length rules)
  head_within k [] l is = absurd (none-some l is)
  head_within k (r ∷ rules) l is =
      choose (same_group (group_of r) g) is (λ at. head_within (k + 1) rules l at) where
        choose : (b : Bool)
            → head_of (cond b (k ∷ lines_from g (k + 1) rules) (lines_from g (k + 1) rules))
            ≡ Some l
            → (head_of (lines_from g (k + 1) rules) ≡ Some l → (k + 1 ≤ l)
            × (l < k + 1 + length rules))
            → (k ≤ l) × (l < k + suc (length rules))
        choose true at rest = let same : k ≡ l = same_Some k l at in (omega arith, omega arith)
        choose false at rest = let w = rest at in (omega (arith, w.0), omega (arith, w.1))

  -- a rule before the first line of the group belongs to another group
  pub above_head : (k : ℕ) (rules : List RuleValue) (i : ℕ) (r : RuleValue) → slice_get rules i
      ≡ Some r
      → ((l : ℕ) → head_of (lines_from g k rules) ≡ Some l → k + i < l) → same_group (group_of r) g
      ≡ false
  above_head k [] i r is above = absurd (none-some r is)
  above_head k (s ∷ rules) i r is above =
      choose (same_group (group_of s) g) refl above i is refl
      (λ j at all. above_head (k + 1) rules j r at all)
    where
      choose : (b : Bool) → same_group (group_of s) g ≡ b
          → ((l : ℕ) → head_of
          (cond b (k ∷ lines_from g (k + 1) rules) (lines_from g (k + 1) rules))
          ≡ Some l → k + i < l)
          → (j : ℕ) → slice_get (s ∷ rules) j ≡ Some r → j ≡ i
          → ((n : ℕ) → slice_get rules n ≡ Some r
          → ((l : ℕ) → head_of (lines_from g (k + 1) rules) ≡ Some l → k + 1 + n < l)
          → same_group (group_of r) g ≡ false)
          → same_group (group_of r) g ≡ false
      choose true has all j at same rest = let no : k + i < k = all k refl in absurd (omega arith)
      choose false has all zero at same rest = let e : s ≡ r = same_Some s r at
          in ap (λ t. same_group (group_of t) g) (sym e)
          ∙ has
      choose false has all (suc j) at same rest =
          rest j at (λ l head. let less : k + i < l = all l head in omega arith)

  -- the group's lines that remain after the walk has passed a line up to the first of them
  pub lines_passed : (k : ℕ) (rules : List RuleValue) (line : ℕ) → k ≤ line
      → line < k + length rules
      → ((l : ℕ) → head_of (lines_from g k rules) ≡ Some l → line ≤ l)
      → lines_after line (lines_from g k rules)
      ≡ lines_from g (line + 1) (drop (line + 1 - k) rules)
  lines_passed k [] line least within first = absurd (omega arith)
  lines_passed k (r ∷ rules) line least within first =
      choose (same_group (group_of r) g) first (cases_eq k line)
      (λ low all. lines_passed (k + 1) rules line low (omega arith) all)
    where
      after : (n : ℕ) → suc n ≡ line + 1 - k → drop n rules ≡ drop (line + 1 - k) (r ∷ rules)
      after n is = ap (λ (m : ℕ). drop m (r ∷ rules)) is

      choose : (b : Bool)
          → ((l : ℕ) → head_of
          (cond b (k ∷ lines_from g (k + 1) rules) (lines_from g (k + 1) rules))
          ≡ Some l → line ≤ l) → (k ≡ line) ⊎ (k ≢ line)
          → (k + 1 ≤ line → ((l : ℕ) → head_of (lines_from g (k + 1) rules) ≡ Some l → line ≤ l)
          → lines_after line (lines_from g (k + 1) rules)
          ≡ lines_from g (line + 1) (drop (line + 1 - (k + 1)) rules))
          → lines_after line (cond b (k ∷ lines_from g (k + 1) rules) (lines_from g (k + 1) rules))
          ≡ lines_from g (line + 1) (drop (line + 1 - k) (r ∷ rules))
      choose true all here rest =
          let no_later : line ≤ k = all k refl in
          let same : k ≡ line = omega arith in
          ap (λ (b : Bool). cond b (lines_from g (k + 1) rules) (k ∷ lines_from g (k + 1) rules))
          (eq-eqb k line same)
          ∙ (λ i. lines_from g (same i + 1) rules)
          ∙ ap (lines_from g (line + 1)) (after 0 (omega arith))
      choose false all (inl same) rest =
          after_other line (lines_from g (k + 1) rules) (λ l head e. let w =
          (head_within (k + 1)
          rules l head).0
          in absurd (omega arith))
          ∙ (λ i. lines_from g (same i + 1) rules)
          ∙ ap (lines_from g (line + 1)) (after 0 (omega arith))
      choose false all (inr other) rest =
          rest (omega arith) all
          ∙ ap (lines_from g (line + 1)) (after (line + 1 - (k + 1)) (omega arith))

  -- the lines of the group after a rule is appended
  pub lines_from-push : (k : ℕ) (rules : List RuleValue) (r : RuleValue)
      → lines_from g k (rules ++ r ∷ []) ≡ lines_from g k rules
      ++ cond (same_group (group_of r) g) ((k + length rules) ∷ []) []
  lines_from-push k [] r = let here : k ≡ k + 0 =
      omega arith in ap
      (λ (n : ℕ). cond (same_group (group_of r) g) (n ∷ []) []) here
  lines_from-push k (s ∷ rules) r =
      choose (same_group (group_of s) g) (lines_from-push (k + 1) rules r) where
        choose : (b : Bool) → lines_from g (k + 1) (rules ++ r ∷ []) ≡ lines_from g (k + 1) rules
            ++ cond (same_group (group_of r) g) ((k + 1 + length rules) ∷ []) []
            → cond b (k ∷ lines_from g (k + 1) (rules ++ r ∷ []))
            (lines_from g (k + 1) (rules ++ r ∷ []))
            ≡ cond b (k ∷ lines_from g (k + 1) rules) (lines_from g (k + 1) rules)
            ++ cond (same_group (group_of r) g) ((k + suc (length rules)) ∷ []) []
        choose b rest =
            let there : k + 1 + length rules ≡ k + suc (length rules) = omega arith in
            let more = rest
            ∙ ap (λ (n : ℕ). lines_from g (k + 1) rules
            ++ cond (same_group (group_of r) g) (n ∷ []) []) there in
            ap (λ (l : List ℕ). cond b (k ∷ l) l) more
            ∙ either b (lines_from g (k + 1) rules)
            (cond (same_group (group_of r) g) ((k + suc (length rules)) ∷ []) [])
          where
            either : (b : Bool) (xs ys : List ℕ) → cond b (k ∷ (xs ++ ys)) (xs ++ ys)
                ≡ cond b (k ∷ xs) xs ++ ys
            either true xs ys = refl
            either false xs ys = refl

-- a property of two first lines is a property of the earlier one
pub earlier_all : (P : ℕ → Type 0) (m n : Option ℕ) (l : ℕ) → ((i : ℕ) → m ≡ Some i → P i)
    → ((i : ℕ) → n ≡ Some i → P i) → earlier_of m n ≡ Some l → P l
earlier_all P None n l p q is = q l is
earlier_all P (Some m) None l p q is = p l is
earlier_all P (Some m) (Some n) l p q is = choose (nat_lt n m) is where
  choose : (b : Bool) → cond b (Some n) (Some m) ≡ Some l → P l
  choose true at = q l at
  choose false at = p l at

-- a line that isn't later than the earlier of two isn't later than either
pub earlier_min : (m n : Option ℕ) (line : ℕ) → ((l : ℕ) → earlier_of m n ≡ Some l → line ≤ l)
    → ((l : ℕ) → m ≡ Some l → line ≤ l) × ((l : ℕ) → n ≡ Some l → line ≤ l)
earlier_min None n line least = ((λ l e. absurd (none-some l e)), least)
earlier_min (Some m) None line least = (least, (λ l e. absurd (none-some l e)))
earlier_min (Some m) (Some n) line least = choose (nat_lt n m) refl least where
  choose : (b : Bool) → nat_lt n m ≡ b → ((l : ℕ) → cond b (Some n) (Some m) ≡ Some l → line ≤ l)
      → ((l : ℕ) → Some m ≡ Some l → line ≤ l) × ((l : ℕ) → Some n ≡ Some l → line ≤ l)
  choose true less all =
      let here : line ≤ n = all n refl in
      let below : n < m = grind (arith, nat_tests) in (
        (λ l e. let same : m ≡ l = same_Some m l e in omega arith),
        (λ l e. let same : n ≡ l = same_Some n l e in omega arith),
      )
  choose false less all =
      let here : line ≤ m = all m refl in
      let above : m ≤ n = grind (arith, nat_tests) in (
        (λ l e. let same : m ≡ l = same_Some m l e in omega arith),
        (λ l e. let same : n ≡ l = same_Some n l e in omega arith),
      )

-- if there is no earlier line, there is neither of the two
pub earlier_none : (m n : Option ℕ) → earlier_of m n ≡ None → (m ≡ None) × (n ≡ None)
earlier_none None n is = (refl, is)
earlier_none (Some m) None is = absurd (none-some m (sym is))
earlier_none (Some m) (Some n) is = choose (nat_lt n m) is where
  choose : (b : Bool) → cond b (Some n) (Some m) ≡ None → (Some m ≡ None) × (Some n ≡ None)
  choose true at = absurd (none-some n (sym at))
  choose false at = absurd (none-some m (sym at))

-- Loops over two lists, that have still to append what the rests of both give.
use Rattle.std.proofs.Common.{◌≡◌, ℕ, ◌+◌, ◌<◌, ◌≤◌, List, [], ◌∷◌, ◌++◌, append_assoc, append-nil, drop, get_or, length, ap, sym, ◌∙◌}
use Rattle.std.proofs.lemmas.List.{at_drop_all, at_drop_more}

module _ {A B C : Type 0} (now : List C) (rest : List A → List B → List C) (xs : List A)
    (ys : List B) (i : ℕ) where
  -- what the next two items give was appended
  pub one_less : {next total : List C} (d : A) (e : B) (one after : List C) → i < length xs
      → i < length ys
      → rest (get_or xs i d ∷ drop (i + 1) xs) (get_or ys i e ∷ drop (i + 1) ys) ≡ one ++ after
      → now ++ rest (drop i xs) (drop i ys) ≡ total → next ≡ now ++ one → next ++ after ≡ total
  one_less {next} {total} d e one after here there is so_far pushed =
      ap (λ (l : List C). l ++ after) pushed
      ∙ (append_assoc now one after
      ∙ (ap (λ (l : List C). now ++ l)
      (sym (at_drop_more (λ (l : List A). rest l (drop i ys)) xs i d here
      ∙ (at_drop_more (rest (get_or xs i d ∷ drop (i + 1) xs)) ys i e there ∙ is)))
      ∙ so_far))

  -- what no two items give is left
  pub none_left : {total : List C} → length xs ≤ i → rest [] (drop i ys) ≡ []
      → now ++ rest (drop i xs) (drop i ys) ≡ total → now ≡ total
  none_left {total} past none so_far =
      sym (append-nil now)
      ∙ (ap (λ (l : List C). now ++ l)
      (sym (at_drop_all (λ (l : List A). rest l (drop i ys)) xs i past ∙ none))
      ∙ so_far)

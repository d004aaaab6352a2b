-- Iterating over the components of a path.
use Rattle.std.proofs.Common.{◌≡◌, ℕ, ◌+◌, ◌≤◌, Bool, true, false, List, ◌∷◌, length, drop}
use Rattle.std.specs.List.{list_all}
use Rattle.std.proofs.Math.ListN.{drop_of_length-le}

module _ {X : Type 0} (p : X → Bool) (xs : List X) (n : ℕ) (whole : Bool) where
  -- after an item that passes, the items after it decide
  pub all_goes_on : (m : ℕ) (x : X) → drop n xs ≡ x ∷ drop (n + 1) xs → p x ≡ true → m ≡ n + 1
      → list_all p (drop n xs) ≡ whole → list_all p (drop m xs) ≡ whole
  all_goes_on m x item passes is so_far = rw is (rw (item, passes) at so_far)

  pub all_stops : (x : X) → drop n xs ≡ x ∷ drop (n + 1) xs → p x ≡ false → list_all p (drop n xs)
      ≡ whole → false ≡ whole
  all_stops x item fails so_far = rw (item, fails) at so_far

  pub all_is_done : length xs ≤ n → list_all p (drop n xs) ≡ whole → true ≡ whole
  all_is_done le so_far = rw (drop_of_length-le xs le) at so_far

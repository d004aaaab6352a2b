-- Going over a list until an item passes a test.
use Rattle.std.proofs.Common.{◌≡◌, ℕ, suc, ◌+◌, ◌<◌, ◌≤◌, Bool, true, false, List, ◌∷◌, length, get_or, drop, add-one, sym, ap, ◌∙◌}
use Rattle.std.proofs.Math.ListN.{drop_of_length-le}
use Rattle.std.proofs.Math.Seq.{drop-cons}
use Rattle.std.specs.List.{list_any}

module _ {X : Type 0} (test : X → Bool) (xs : List X) (n : ℕ) (x : X) (whole : Bool) where
  at_item : n < length xs → x ≡ get_or xs n x → drop n xs ≡ x ∷ drop (n + 1) xs
  at_item lt is =
      let e : drop n xs ≡ get_or xs n x ∷ drop (suc n) xs = drop-cons xs n x lt in
      rw add-one (e ∙ ap (λ y. y ∷ drop (suc n) xs) (sym is))

  pub any_here : n < length xs → x ≡ get_or xs n x → test x ≡ true
      → list_any test (drop n xs) ≡ whole → true ≡ whole
  any_here lt is passed so_far = rw (at_item lt is, passed) at so_far

  -- the items after one that doesn't pass decide
  pub any_later : n < length xs → x ≡ get_or xs n x → test x ≡ false
      → list_any test (drop n xs) ≡ whole → list_any test (drop (n + 1) xs) ≡ whole
  any_later lt is failed so_far = rw (at_item lt is, failed) at so_far

pub any_nowhere : {X : Type 0} (test : X → Bool) (xs : List X) (n : ℕ) (whole : Bool)
    → length xs ≤ n → list_any test (drop n xs) ≡ whole → false ≡ whole
any_nowhere test xs n whole le so_far = rw (drop_of_length-le xs le) at so_far

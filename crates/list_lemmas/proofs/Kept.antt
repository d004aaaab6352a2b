-- Several appends in a row, and what was there before them.
use Rattle.std.proofs.Common.{◌≡◌, ℕ, ◌≤◌, List, ◌++◌, append_assoc, length, length-append, take, Result, Ok, Err, sym, ap, ◌∙◌, arith}
use Rattle.std.specs.Prelude.{OnErr, OnOk}
use Rattle.std.proofs.lemmas.List.{length-take, take_all, take_at, take-take}

module _ {A : Type 0} where
  -- the result of two appends
  pub appended_both : (out grown whole a b : List A) → grown ≡ out ++ a → whole ≡ grown ++ b
      → whole ≡ out ++ (a ++ b)
  appended_both out grown whole a b first second =
      second ∙ ap (λ (l : List A). l ++ b) first ∙ append_assoc out a b

  -- what was there stays if nothing changes
  pub kept_same : (out whole : List A) (n : ℕ) → length out ≡ n → whole ≡ out → take n whole ≡ out
  kept_same out whole n long same = ap (take n) same ∙ take_all n out (omega arith)

  -- what was there before an append stays
  pub kept_append : (out whole a : List A) (n : ℕ) → length out ≡ n → whole ≡ out ++ a
      → take n whole ≡ out
  kept_append out whole a n long first = ap (take n) first ∙ take_at out a n long

  -- what was there before an append stays, as long as its result does
  pub kept_before : (out grown whole a : List A) (n m : ℕ) → length out ≡ n → grown ≡ out ++ a
      → take m whole ≡ grown → take n whole ≡ out
  kept_before out grown whole a n m long first kept =
      let within : n ≤ m =
      omega (arith, ap length first, length-append out a, ap length kept, length-take m whole) in
      sym (take-take n m whole within) ∙ ap (take n) kept ∙ kept_append out grown a n long first

  -- what was there before an append stays, also if the append after it is the last and fails
  pub kept_by_last : {T E : Type 0} (r : Result T E) (out grown whole a b : List A) (n : ℕ)
      → length out ≡ n → grown ≡ out ++ a → OnOk r (whole ≡ grown ++ b) → OnErr r (whole ≡ grown)
      → take n whole ≡ out
  kept_by_last (Ok v) out grown whole a b n long first more same =
      kept_append out whole (a ++ b) n long (appended_both out grown whole a b first more)
  kept_by_last (Err e) out grown whole a b n long first more same =
      kept_append out whole a n long (same ∙ first)

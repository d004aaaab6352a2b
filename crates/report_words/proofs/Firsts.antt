-- What the first word and those after it make: by the list of words that the code has.
use Rattle.std.proofs.Common.{◌≡◌, ℕ, ◌-◌, ◌<◌, ◌≤◌, Bool, true, false, cond, Option, Some, None}
use Rattle.std.proofs.Common.{List, [], ◌∷◌, length, map, take, drop, get_or}
use Rattle.std.proofs.Common.{refl, sym, ◌∙◌, ap, arith}
use Rattle.std.proofs.lemmas.List.{take_all}
use Rattle.text_forms.specs.Options.{◌>>=◌}
use Rattle.report_words.specs.Forms.{Words, after_by}

-- ---- the words after one that passes a test

module _ {X : Type 0} (view : X → List ℕ) (test : List ℕ → Bool) where
  -- there is no word
  pub after_none : (xs : List X) → length xs < 1 → None ≡ after_by test (map view xs)
  after_none [] l = refl
  after_none (x ∷ xs) l = absurd (omega arith)

  -- the first word passes
  pub after_first : (xs : List X) (d : X) → 1 ≤ length xs → test (view (get_or xs 0 d)) ≡ true
      → Some (map view (take (length xs - 1) (drop 1 xs))) ≡ after_by test (map view xs)
  after_first [] d l e = absurd (omega arith)
  after_first (x ∷ xs) d l e =
      let rest : take (length (x ∷ xs) - 1) xs ≡ xs =
      take_all (length (x ∷ xs) - 1) xs (omega arith) in
      ap (λ (ys : List X). Some (map view ys)) rest
      ∙ sym (ap (λ (b : Bool). cond b (Some (map view xs)) None) e)

  -- the first word doesn't pass
  pub after_other : (xs : List X) (d : X) → 1 ≤ length xs → test (view (get_or xs 0 d)) ≡ false
      → None ≡ after_by test (map view xs)
  after_other [] d l e = absurd (omega arith)
  after_other (x ∷ xs) d l e = sym (ap (λ (b : Bool). cond b (Some (map view xs)) None) e)

-- ---- what is read of the words after the first, by what that gives

module _ {X A B : Type 0} (view : X → List ℕ) (of : List ℕ → Option A)
    (next : A → Words → Option B) (all : Words → Option B)
    (step : (w : List ℕ) (ws : Words) → all (w ∷ ws) ≡ (of w >>= λ a. next a ws)) where
  pub next_given : (xs : List X) (d : X) (a : A) → 1 ≤ length xs
      → of (view (get_or xs 0 d)) ≡ Some a
      → next a (map view (take (length xs - 1) (drop 1 xs))) ≡ all (map view xs)
  next_given [] d a l e = absurd (omega arith)
  next_given (x ∷ xs) d a l e =
      let rest : take (length (x ∷ xs) - 1) xs ≡ xs =
      take_all (length (x ∷ xs) - 1) xs (omega arith) in
      ap (λ (ys : List X). next a (map view ys)) rest
      ∙ sym (step (view x) (map view xs)
      ∙ ap (λ (o : Option A). o >>= λ b. next b (map view xs)) e)

  pub nothing_next : (xs : List X) (d : X) → 1 ≤ length xs → of (view (get_or xs 0 d)) ≡ None
      → None ≡ all (map view xs)
  nothing_next [] d l e = absurd (omega arith)
  nothing_next (x ∷ xs) d l e =
      sym (step (view x) (map view xs)
      ∙ ap (λ (o : Option A). o >>= λ b. next b (map view xs)) e)

-- ---- the words without the first, if that passes a test

module _ {X : Type 0} (view : X → List ℕ) (test : List ℕ → Bool) (all : Words → Words)
    (step : (w : List ℕ) (ws : Words) → all (w ∷ ws) ≡ cond (test w) ws (w ∷ ws)) where
  pub first_left_out : (xs : List X) (d : X) → 1 ≤ length xs → test (view (get_or xs 0 d)) ≡ true
      → map view (take (length xs - 1) (drop 1 xs)) ≡ all (map view xs)
  first_left_out [] d l e = absurd (omega arith)
  first_left_out (x ∷ xs) d l e =
      let rest : take (length (x ∷ xs) - 1) xs ≡ xs =
      take_all (length (x ∷ xs) - 1) xs (omega arith) in
      ap (λ (ys : List X). map view ys) rest
      ∙ sym (step (view x) (map view xs)
      ∙ ap (λ (b : Bool). cond b (map view xs) (view x ∷ map view xs)) e)

  pub first_left : (xs : List X) (d : X) → 1 ≤ length xs → test (view (get_or xs 0 d)) ≡ false
      → map view xs ≡ all (map view xs)
  first_left [] d l e = absurd (omega arith)
  first_left (x ∷ xs) d l e =
      sym (step (view x) (map view xs)
      ∙ ap (λ (b : Bool). cond b (map view xs) (view x ∷ map view xs)) e)

-- The last index below an end that passes a test.
use Rattle.std.proofs.Common.{◌≡◌, ℕ, zero, suc, ◌<◌, Bool, true, false, cond, Option, None, Some, refl, ap, subst, sym, ◌∙◌, inl, inr, arith}
use Rattle.std.proofs.lemmas.Bool.{cases_order}
use Rattle.measure_book.specs.Places.{last_below}

-- two tests that agree below the end give the same last index
pub last_below-same : (s t : ℕ → Bool) (end : ℕ) → ((i : ℕ) → i < end → s i ≡ t i)
    → last_below s end ≡ last_below t end
last_below-same s t zero same = refl
last_below-same s t (suc end) same =
    ap (λ (b : Bool). cond b (Some end) (last_below s end)) (same end (omega arith))
    ∙ ap (λ (o : Option ℕ). cond (t end) (Some end) o)
    (last_below-same s t end (λ i below. same i (omega arith)))

-- the index is below the end and passes the test
pub record Found (test : ℕ → Bool) (end place : ℕ) : Type 0 where
  pub below : place < end
  pub passes : test place ≡ true

-- an index that is returned is below the end and passes the test
pub last_below-found : (test : ℕ → Bool) (end place : ℕ) → last_below test end ≡ Some place
    → Found test end place
last_below-found test zero place is = absurd (cc)
last_below-found test (suc end) place is =
    at (λ e. last_below-found test end place e) (test end) refl where
      at : (last_below test end ≡ Some place → Found test end place) → (b : Bool) → test end ≡ b
          → Found test (suc end) place
      at earlier true passes =
          let here : Some end ≡ Some place =
          ap (λ (c : Bool). cond c (Some end) (last_below test end))
          (sym passes) ∙ is in
          let same : end ≡ place = cc here in
          record {
            below = omega (arith, same);
            passes =
                subst (λ (n : ℕ). test n ≡ true) same passes;
          }
      at earlier false fails =
          let rest = earlier (ap (λ (c : Bool). cond c (Some end) (last_below test end)) (sym fails)
          ∙ is) in
          record { below = omega (arith, rest.below); passes = rest.passes }

-- if no index is returned, no index below the end passes
pub last_below-none : (test : ℕ → Bool) (end i : ℕ) → last_below test end ≡ None → i < end
    → test i ≡ false
last_below-none test zero i is below = absurd (omega arith)
last_below-none test (suc end) i is below =
    at (λ e before. last_below-none test end i e before) (test end) refl where
      at : (last_below test end ≡ None → i < end → test i ≡ false) → (b : Bool) → test end ≡ b
          → test i ≡ false
      at earlier true passes =
          let here : Some end ≡ None = ap (λ (c : Bool). cond c (Some end) (last_below test end))
          (sym passes) ∙ is in
          absurd (cc)
      at earlier false fails =
          elim (cases_order i end) [
            | inl same ↦ ap test same ∙ fails
            | inr (inl before) ↦ earlier (ap (λ (c : Bool). cond c (Some end) (last_below test end))
                (sym fails) ∙ is) before
            | inr (inr after) ↦ absurd (omega arith)
          ]

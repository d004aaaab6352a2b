-- Tests of equal and of different numbers.
use Rattle.std.proofs.Common.{◌≡◌, ℕ, suc, ◌==◌, true, false, sym, ap, ◌∙◌}
use Rattle.std.proofs.lemmas.Bool.{eqb-false, eqb-true, ne_eqb}

pub swapped : (a b : ℕ) → (a == b) ≡ false → (b == a) ≡ false
swapped a b n = ne_eqb b a (λ (e : b ≡ a). eqb-false a b n (sym e))

pub without_suc : (a b : ℕ) → (suc a == suc b) ≡ false → (a == b) ≡ false
without_suc a b n = ne_eqb a b (λ (e : a ≡ b). eqb-false (suc a) (suc b) n (ap suc e))

pub other_of_same : (a b c : ℕ) → (a == b) ≡ true → (b == c) ≡ false → (a == c) ≡ false
other_of_same a b c e n =
    ne_eqb a c (λ (q : a ≡ c). eqb-false b c n (sym (eqb-true a b e) ∙ q))

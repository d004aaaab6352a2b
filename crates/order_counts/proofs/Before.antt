-- The lexicographic order of orders.
use Rattle.std.proofs.Common.{◌≡◌, ℕ, true, false, List, [], ◌∷◌, ◌++◌, length, nat_cmp, is_lt, Ordering, Less, Equal, Greater, refl, ap, sym, ◌∙◌, arith}
use Rattle.std.specs.Cmp.{IsTotalOrder, nat_cmp_total}
use Rattle.std.specs.Cmp.Lexicographic.{lists_total, slice_cmp}
use Rattle.std.specs.Ordering.{ordering_reverse, ordering_then}
use Rattle.std.proofs.lemmas.Bool.{true≢false}
use Rattle.order_counts.specs.Orders.{comes_before}

-- lists are totally ordered
total : IsTotalOrder (slice_cmp nat_cmp)
total = lists_total nat_cmp_total

-- which of three orderings it is
three : (o : Ordering) (P : Type 0) → (o ≡ Less → P) → (o ≡ Equal → P) → (o ≡ Greater → P) → P
three Less P l e g = l refl
three Equal P l e g = e refl
three Greater P l e g = g refl

-- a list that comes after neither of two
not_less : (a b c : List ℕ) → comes_before b a ≡ false → comes_before c b ≡ false
    → (o : Ordering) → slice_cmp nat_cmp c a ≡ o → is_lt o ≡ false
not_less a b c ab bc Equal h = refl
not_less a b c ab bc Greater h = refl
not_less a b c ab bc Less h =
    three (slice_cmp nat_cmp c b) (true ≡ false)
    (λ less. sym (ap is_lt less) ∙ bc)
    (λ equal. sym (ap is_lt (sym (total.congr c b a equal) ∙ h)) ∙ ab)
    (λ greater. sym (ap is_lt (total.trans b c a
    (total.antisymm b c ∙ ap ordering_reverse greater) h)) ∙ ab)

-- what doesn't come after is transitive
pub not_after : (a b c : List ℕ) → comes_before b a ≡ false → comes_before c b ≡ false
    → comes_before c a ≡ false
not_after a b c ab bc = not_less a b c ab bc (slice_cmp nat_cmp c a) refl

-- no list comes before itself
equal_itself : (o : Ordering) → o ≡ ordering_reverse o → is_lt o ≡ false
equal_itself Less h = ap is_lt h
equal_itself Equal h = refl
equal_itself Greater h = refl

pub not_itself : (a : List ℕ) → comes_before a a ≡ false
not_itself a = equal_itself (slice_cmp nat_cmp a a) (total.antisymm a a)

-- of two lists, at most one comes before the other
only_one : (o : Ordering) → is_lt o ≡ true → is_lt (ordering_reverse o) ≡ false
only_one Less h = refl
only_one Equal h = refl
only_one Greater h = absurd (true≢false (sym h))

pub not_both : (a b : List ℕ) → comes_before a b ≡ true → comes_before b a ≡ false
not_both a b h = ap is_lt (total.antisymm b a) ∙ only_one (slice_cmp nat_cmp a b) h

-- a list compared with itself is equal
is_equal : (o : Ordering) → o ≡ ordering_reverse o → o ≡ Equal
is_equal Less h = absurd (true≢false (ap is_lt h))
is_equal Equal h = refl
is_equal Greater h = absurd (true≢false (sym (ap is_lt h)))

-- the same rest after two lists of one length doesn't change how they compare
same_rest : (a b s : List ℕ) → length a ≡ length b
    → slice_cmp nat_cmp (a ++ s) (b ++ s) ≡ slice_cmp nat_cmp a b
same_rest [] [] s e = is_equal (slice_cmp nat_cmp s s) (total.antisymm s s)
same_rest [] (y ∷ ys) s e = absurd (omega (arith, e))
same_rest (x ∷ xs) [] s e = absurd (omega (arith, e))
same_rest (x ∷ xs) (y ∷ ys) s e =
    ap (ordering_then (nat_cmp x y)) (same_rest xs ys s (omega (arith, e)))

pub not_after_longer : (a b s : List ℕ) → length a ≡ length b → comes_before b a ≡ false
    → comes_before (b ++ s) (a ++ s) ≡ false
not_after_longer a b s e h = ap is_lt (same_rest b a s (sym e)) ∙ h

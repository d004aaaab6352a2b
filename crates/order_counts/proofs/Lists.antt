-- Sums over lists of tasks and of counted orders.
use Rattle.std.proofs.Common.{◌≡◌, ℕ, ◌+◌, Bool, cond, List, [], ◌∷◌, ◌++◌, map, flat_map, count_by, refl, ap, sym, ◌∙◌, arith}
use Rattle.std.proofs.lemmas.List.Sums.{sum_by-append, sum_by-cons}
use Rattle.order_counts.specs.Layers.{over}
use Rattle.order_counts.specs.Rows.{Counted, weighed}

-- a count over an appended list
pub count-append : {X : Type 0} (p : X → Bool) (xs ys : List X)
    → count_by p (xs ++ ys) ≡ count_by p xs + count_by p ys
count-append p xs ys = sum_by-append (λ x. cond (p x) 1 0) xs ys

-- a count over a mapped list
pub count-map : {X Y : Type 0} (p : Y → Bool) (f : X → Y) (xs : List X)
    → count_by p (map f xs) ≡ count_by (λ x. p (f x)) xs
count-map p f [] = refl
count-map p f (x ∷ xs) =
    sum_by-cons (λ y. cond (p y) 1 0) (f x) (map f xs)
    ∙ ap (λ n. cond (p (f x)) 1 0 + n) (count-map p f xs)
    ∙ sym (sum_by-cons (λ z. cond (p (f z)) 1 0) x xs)

-- a count over the lists that the tasks give is the sum of their counts
pub count-flat : {X : Type 0} (p : X → Bool) (f : ℕ → List X) (ns : List ℕ)
    → count_by p (flat_map f ns) ≡ over (λ n. count_by p (f n)) ns
count-flat p f [] = refl
count-flat p f (n ∷ ns) =
    count-append p (f n) (flat_map f ns)
    ∙ ap (λ k. count_by p (f n) + k) (count-flat p f ns)

-- sums of equal numbers are equal
pub over-same : (f g : ℕ → ℕ) → ((n : ℕ) → f n ≡ g n) → (ns : List ℕ) → over f ns ≡ over g ns
over-same f g same [] = refl
over-same f g same (n ∷ ns) = λ i. same n i + over-same f g same ns i

-- the weight of an appended list
pub weighed-append : (f : List ℕ → ℕ) (xs ys : List Counted)
    → weighed f (xs ++ ys) ≡ weighed f xs + weighed f ys
weighed-append f [] ys = omega arith
weighed-append f (x ∷ xs) ys =
    let rest = weighed-append f xs ys in
    omega (arith, rest)

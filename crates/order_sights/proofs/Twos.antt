-- Two lists that are walked together.
use Rattle.std.proofs.Common.{◌≡◌, ℕ, ◌+◌, ◌<◌, ◌≤◌, List, length, map, get_or, Option, Some, None, option_map, refl, sym, subst, ◌∙◌, slice_get, below_more, arith}
use Rattle.std.proofs.lemmas.List.{length-map}
use Rattle.std.proofs.lemmas.Option.{none-some, same_Some, slice_get-get_or, slice_get-map}
use Rattle.order_sights.specs.Pairs.{AreTwo}
pub use Rattle.order_told.proofs.Firsts.{take_next}

-- the items at one place more are related
pub two_more : {X Y : Type 0} (P : X → Y → Type 0) (xs : List X) (ys : List Y) (k : ℕ) (x : X)
    (y : Y) → k < length xs → k < length ys → P (get_or xs k x) (get_or ys k y)
    → AreTwo P xs ys k → AreTwo P xs ys (k + 1)
two_more {X} {Y} P xs ys k x y lt lt2 now before =
    below_more (λ j. (a : X) (b : Y) → slice_get xs j ≡ Some a → slice_get ys j ≡ Some b → P a b)
    k before
    (λ a b at at2. subst (λ (z : X). P z b)
    (same_Some (get_or xs k x) a (sym (slice_get-get_or xs k x lt) ∙ at))
    (subst (λ (z : Y). P (get_or xs k x) z)
    (same_Some (get_or ys k y) b (sym (slice_get-get_or ys k y lt2) ∙ at2)) now))

-- the items at all places are
pub two_all : {X Y : Type 0} (P : X → Y → Type 0) (xs : List X) (ys : List Y) (k : ℕ)
    → length xs ≤ k → AreTwo P xs ys k → AreTwo P xs ys (length xs)
two_all P xs ys k le h j lt = h j (omega (arith, lt, le))

pub two_next : {X Y : Type 0} (P : X → Y → Type 0) (xs : List X) (ys : List Y) (k : ℕ) (x : X)
    (y : Y) → k < length xs → k < length ys → x ≡ get_or xs k x → y ≡ get_or ys k y → P x y
    → AreTwo P xs ys k → AreTwo P xs ys (k + 1)
two_next {X} {Y} P xs ys k x y lt lt2 is is2 now before =
    two_more P xs ys k x y lt lt2
    (subst (λ (z : Y). P (get_or xs k x) z) is2 (subst (λ (z : X). P z y) is now)) before

-- what a function gives of the items is related
pub two_mapped : {X Y : Type 0} (P : Y → Y → Type 0) (f : X → Y) (xs ys : List X)
    → AreTwo (λ a b. P (f a) (f b)) xs ys (length xs)
    → AreTwo P (map f xs) (map f ys) (length (map f xs))
two_mapped {X} {Y} P f xs ys h k lt y z at at2 =
    let len = length-map xs f in
    by (slice_get xs k) refl (slice_get ys k) refl (sym (slice_get-map f xs k) ∙ at)
    (sym (slice_get-map f ys k) ∙ at2) (omega (arith, lt, len))
  where
    by : (o : Option X) → slice_get xs k ≡ o → (u : Option X) → slice_get ys k ≡ u
        → option_map f o ≡ Some y → option_map f u ≡ Some z → k < length xs → P y z
    by None is u is2 e e2 within = absurd (none-some y e)
    by (Some a) is None is2 e e2 within = absurd (none-some z e2)
    by (Some a) is (Some b) is2 e e2 within =
        subst (λ (w : Y). P y w) (same_Some (f b) z e2)
        (subst (λ (w : Y). P w (f b)) (same_Some (f a) y e) (h k within a b is is2))

-- No order is listed twice.
use Rattle.std.proofs.Common.{◌≡◌, ◌⊎◌, ℕ, zero, suc, ◌<◌, Bool, true, false, not, Contains, List, [], ◌∷◌, ◌++◌, flat_map, map, Option, Some, None, if◌then◌else◌, slice_get, ap, sym, subst, ◌∙◌, arith, inl, inr}
use Rattle.std.proofs.lemmas.Bool.{and_parts, both_ways, not-true}
use Rattle.std.proofs.lemmas.List.Elements.{Contains-append_cases}
use Rattle.std.proofs.lemmas.Option.{none-some, same_Some}
use Rattle.order_counts.specs.Orders.{AreListed, has_no_twins, is_among, orders, rests}
use Rattle.order_counts.proofs.Listed.{flat_only, listed_all, listed_only, map_only}
use Rattle.order_counts.proofs.Spread.{first_in, in_none, later_in}

-- no item is in the list twice
abbrev Apart : {X : Type 0} → List X → Type 0
Apart [] = Unit {0}
Apart (x ∷ xs) = (Contains xs x → ⊥) × Apart xs

-- an item is in a list at its place
at_in : {X : Type 0} (xs : List X) (k : ℕ) (x : X) → slice_get xs k ≡ Some x → Contains xs x
at_in [] k x h = absurd (none-some x h)
at_in (y ∷ ys) zero x h = subst (λ z. Contains (y ∷ ys) z) (same_Some y x h) (first_in y ys)
at_in (y ∷ ys) (suc k) x h = later_in y ys x (at_in ys k x h)

-- two places of one item are one place
apart_at : {X : Type 0} (xs : List X) → Apart xs → (a b : ℕ) (x : X) → a < b
    → slice_get xs a ≡ Some x → slice_get xs b ≡ Some x → ⊥
apart_at [] h a b x below p q = none-some x p
apart_at (y ∷ ys) h a zero x below p q = absurd (omega (arith, below))
apart_at (y ∷ ys) h zero (suc b) x below p q =
    h.0 (subst (λ z. Contains ys z) (sym (same_Some y x p)) (at_in ys b x q))
apart_at (y ∷ ys) h (suc a) (suc b) x below p q =
    apart_at ys h.1 a b x (omega (arith, below)) p q

apart_append : {X : Type 0} (xs ys : List X) → Apart xs → Apart ys
    → ((x : X) → Contains xs x → Contains ys x → ⊥) → Apart (xs ++ ys)
apart_append [] ys a b dis = b
apart_append (x ∷ xs) ys a b dis = (
  (λ inside. by (Contains-append_cases xs ys x inside)),
  apart_append xs ys a.1 b (λ y p q. dis y (later_in x xs y p) q),
)
  where
    by : Contains xs x ⊎ Contains ys x → ⊥
    by (inl here) = a.0 here
    by (inr there) = dis x (first_in x xs) there

apart_map : {X Y : Type 0} (f : X → Y) → ((x y : X) → f x ≡ f y → x ≡ y) → (xs : List X)
    → Apart xs → Apart (map f xs)
apart_map f one [] a = tt
apart_map f one (x ∷ xs) a = (
  (λ inside. let r = map_only f xs (f x) inside in
      a.0 (subst (λ z. Contains xs z) (one r.0 x r.1.1) r.1.0)),
  apart_map f one xs a.1,
)

apart_flat : {X : Type 0} (f : ℕ → List X) → ((n : ℕ) → Apart (f n))
    → ((m n : ℕ) (x : X) → Contains (f m) x → Contains (f n) x → m ≡ n) → (ns : List ℕ)
    → has_no_twins ns ≡ true → Apart (flat_map f ns)
apart_flat f each heads [] twins = tt
apart_flat f each heads (k ∷ ks) twins =
    apart_append (f k) (flat_map f ks) (each k) (apart_flat f each heads ks both.1)
    (λ x p q. let r = flat_only f ks x q in
    both_ways (is_among k ks) (not-true (is_among k ks) both.0)
    (ap (λ (j : ℕ). is_among j ks) (heads k r.0 x p r.1.1) ∙ r.1.0))
  where
    both : (not (is_among k ks) ≡ true) × (has_no_twins ks ≡ true)
    both = and_parts (not (is_among k ks)) (has_no_twins ks) twins

-- the first of some numbers, and the others
abbrev first_of_list : List ℕ → ℕ
first_of_list [] = 0
first_of_list (n ∷ ns) = n

abbrev others_of : List ℕ → List ℕ
others_of [] = []
others_of (n ∷ ns) = ns

-- lists that begin with one number are equal only if the rest is
same_rest : (n : ℕ) (a b : List ℕ) → (n ∷ a) ≡ (n ∷ b) → a ≡ b
same_rest n a b e = ap others_of e

same_first : (m n : ℕ) (a b : List ℕ) → (m ∷ a) ≡ (n ∷ b) → m ≡ n
same_first m n a b e = ap first_of_list e

module _ {M : Type 0} (go : M → ℕ → Option M) (tasks : List ℕ)
    (twins : has_no_twins tasks ≡ true) where
  listed_apart : (k : ℕ) (o : Option M) → Apart (orders go tasks k o)
  listed_apart k None = tt
  listed_apart zero (Some m) = by (rests go tasks m)
    where
      by : (b : Bool) → Apart {X = List ℕ} (if b then [] ∷ [] else [])
      by true = ((λ inside. in_none [] inside), tt)
      by false = tt
  listed_apart (suc k) (Some m) =
      by (rests go tasks m) (apart_flat (λ n. map (λ ts. n ∷ ts) (orders go tasks k (go m n)))
      (λ n. apart_map (λ ts. n ∷ ts) (same_rest n) (orders go tasks k (go m n))
      (listed_apart k (go m n))) heads tasks twins)
    where
      heads : (i j : ℕ) (x : List ℕ)
          → Contains (map (λ ts. i ∷ ts) (orders go tasks k (go m i))) x
          → Contains (map (λ ts. j ∷ ts) (orders go tasks k (go m j))) x → i ≡ j
      heads i j x p q =
          let a = map_only (λ ts. i ∷ ts) (orders go tasks k (go m i)) x p in
          let b = map_only (λ ts. j ∷ ts) (orders go tasks k (go m j)) x q in
          same_first i j a.0 b.0 (a.1.1 ∙ sym b.1.1)

      by : (b : Bool)
          → Apart (flat_map (λ n. map (λ ts. n ∷ ts) (orders go tasks k (go m n))) tasks)
          → Apart {X = List ℕ} (if b then [] ∷ []
          else flat_map (λ n. map (λ ts. n ∷ ts) (orders go tasks k (go m n))) tasks)
      by true rest = ((λ inside. in_none [] inside), tt)
      by false rest = rest

  -- the list has every order of at most k turns, and nothing else, and no order twice
  pub are_listed : (k : ℕ) (o : Option M) → AreListed go tasks k o
  are_listed k o = record {
    all = listed_all go tasks k o;
    only = listed_only go tasks k o;
    once = apart_at (orders go tasks k o) (listed_apart k o);
  }

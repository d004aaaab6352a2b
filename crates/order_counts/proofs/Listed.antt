-- The list of orders has every order of at most so many turns, and nothing else.
use Rattle.std.proofs.Common.{◌≡◌, ◌⊎◌, ℕ, zero, suc, ◌≤◌, ◌==◌, Bool, true, false, ◌||◌, Contains, List, [], ◌∷◌, ◌++◌, flat_map, length, map, Option, Some, None, is_none, if◌then◌else◌, refl, ap, sym, subst, ◌∙◌, arith, inl, inr, eqb-true, eq-eqb}
use Rattle.std.proofs.lemmas.Bool.{and_from, and_parts, or_cases, true≢false}
use Rattle.std.proofs.lemmas.List.Elements.{Contains-append_cases, Contains-append_left, Contains-append_right}
use Rattle.order_counts.specs.Orders.{is_among, is_order, orders, rests}
use Rattle.order_counts.proofs.Spread.{first_in, in_cases, in_none, later_in}

-- ---- lists of lists

-- what is in a mapped list
pub map_has : {X Y : Type 0} (f : X → Y) (xs : List X) (x : X) → Contains xs x
    → Contains (map f xs) (f x)
map_has f [] x h = absurd (in_none x h)
map_has f (y ∷ ys) x h = by (in_cases y ys x h) (map_has f ys x)
  where
    by : (y ≡ x) ⊎ Contains ys x → (Contains ys x → Contains (map f ys) (f x))
        → Contains (f y ∷ map f ys) (f x)
    by (inl is) rest = subst (λ z. Contains (f y ∷ map f ys) (f z)) is (first_in (f y) (map f ys))
    by (inr later) rest = later_in (f y) (map f ys) (f x) (rest later)

pub map_only : {X Y : Type 0} (f : X → Y) (xs : List X) (y : Y) → Contains (map f xs) y
    → (x : X) × (Contains xs x × (f x ≡ y))
map_only f [] y h = absurd (in_none y h)
map_only f (x ∷ xs) y h = by (in_cases (f x) (map f xs) y h) (map_only f xs y)
  where
    by : (f x ≡ y) ⊎ Contains (map f xs) y
        → (Contains (map f xs) y → (z : _) × (Contains xs z × (f z ≡ y)))
        → (z : _) × (Contains (x ∷ xs) z × (f z ≡ y))
    by (inl is) rest = (x, (first_in x xs, is))
    by (inr later) rest = let r = rest later in (r.0, (later_in x xs r.0 r.1.0, r.1.1))

-- what is in the lists that tasks give
pub flat_has : {X : Type 0} (f : ℕ → List X) (ns : List ℕ) (n : ℕ) (x : X) → is_among n ns ≡ true
    → Contains (f n) x → Contains (flat_map f ns) x
flat_has f [] n x among h = absurd (true≢false (sym among))
flat_has f (k ∷ ks) n x among h =
    by (or_cases (k == n) (is_among n ks) among) (λ later. flat_has f ks n x later h)
  where
    by : ((k == n) ≡ true) ⊎ (is_among n ks ≡ true)
        → (is_among n ks ≡ true → Contains (flat_map f ks) x)
        → Contains (f k ++ flat_map f ks) x
    by (inl is) rest = Contains-append_left (f k) (flat_map f ks) x
        (subst (λ (j : ℕ). Contains (f j) x) (sym (eqb-true k n is)) h)
    by (inr later) rest = Contains-append_right (f k) (flat_map f ks) x (rest later)

pub flat_only : {X : Type 0} (f : ℕ → List X) (ns : List ℕ) (x : X) → Contains (flat_map f ns) x
    → (n : ℕ) × ((is_among n ns ≡ true) × Contains (f n) x)
flat_only f [] x h = absurd (in_none x h)
flat_only f (k ∷ ks) x h =
    by (Contains-append_cases (f k) (flat_map f ks) x h) (flat_only f ks x)
  where
    later : (n : ℕ) → (b : Bool) → is_among n ks ≡ true → (b || is_among n ks) ≡ true
    later n true among = refl
    later n false among = among

    by : Contains (f k) x ⊎ Contains (flat_map f ks) x
        → (Contains (flat_map f ks) x → (n : ℕ) × ((is_among n ks ≡ true) × Contains (f n) x))
        → (n : ℕ) × ((is_among n (k ∷ ks) ≡ true) × Contains (f n) x)
    by (inl here) rest = (k, (ap (λ b. b || is_among k ks) (eq-eqb k k refl), here))
    by (inr there) rest = let r = rest there in (r.0, (later r.0 (k == r.0) r.1.0, r.1.1))

-- ---- orders

module _ {M : Type 0} (go : M → ℕ → Option M) (tasks : List ℕ) where
  -- a task that leads on doesn't rest
  not_resting : (ns : List ℕ) (m : M) (n : ℕ) → is_among n ns ≡ true → rests go ns m ≡ true
      → go m n ≡ None
  not_resting [] m n among rest = absurd (true≢false (sym among))
  not_resting (k ∷ ks) m n among rest =
      by (or_cases (k == n) (is_among n ks) among) (λ later. not_resting ks m n later both.1)
    where
      both : (is_none (go m k) ≡ true) × (rests go ks m ≡ true)
      both = and_parts (is_none (go m k)) (rests go ks m) rest

      none : (o : Option M) → is_none o ≡ true → o ≡ None
      none None h = refl
      none (Some x) h = absurd (true≢false (sym h))

      by : ((k == n) ≡ true) ⊎ (is_among n ks ≡ true) → (is_among n ks ≡ true → go m n ≡ None)
          → go m n ≡ None
      by (inl is) others =
          ap (go m) (sym (eqb-true k n is)) ∙ none (go m k) both.0
      by (inr later) others = others later

  -- the orders that begin with a turn of task n
  abbrev begun : ℕ → M → ℕ → List (List ℕ)
  begun k m n = map (λ ts. n ∷ ts) (orders go tasks k (go m n))

  -- an order of at most k turns is listed
  pub listed_all : (k : ℕ) (o : Option M) (turns : List ℕ) → is_order go tasks o turns ≡ true
      → length turns ≤ k → Contains (orders go tasks k o) turns
  listed_all k None turns is short = absurd (true≢false (sym is))
  listed_all zero (Some m) [] is short =
      subst (λ (b : Bool). Contains {X = List ℕ} (if b then [] ∷ [] else []) []) (sym is)
      (first_in [] [])
  listed_all (suc k) (Some m) [] is short =
      subst (λ (b : Bool). Contains {X = List ℕ}
      (if b then [] ∷ [] else flat_map (begun k m) tasks) [])
      (sym is) (first_in [] [])
  listed_all zero (Some m) (n ∷ ns) is short = absurd (omega (arith, short))
  listed_all (suc k) (Some m) (n ∷ ns) is short =
      by (rests go tasks m) refl (listed_all k (go m n) ns both.1 (omega (arith, short)))
    where
      both : (is_among n tasks ≡ true) × (is_order go tasks (go m n) ns ≡ true)
      both = and_parts (is_among n tasks) (is_order go tasks (go m n) ns) is

      by : (b : Bool) → rests go tasks m ≡ b → Contains (orders go tasks k (go m n)) ns
          → Contains (if b then [] ∷ [] else flat_map (begun k m) tasks) (n ∷ ns)
      by true rest later =
          let none = not_resting tasks m n both.0 rest in
          absurd (true≢false (sym both.1
          ∙ ap (λ (o : Option M). is_order go tasks o ns) none))
      by false rest later =
          flat_has (begun k m) tasks n (n ∷ ns) both.0
          (map_has (λ ts. n ∷ ts) (orders go tasks k (go m n)) ns later)

  -- what is listed is an order of at most k turns
  pub listed_only : (k : ℕ) (o : Option M) (turns : List ℕ)
      → Contains (orders go tasks k o) turns
      → (is_order go tasks o turns ≡ true) × (length turns ≤ k)
  listed_only k None turns h = absurd (in_none turns h)
  listed_only zero (Some m) turns h = by (rests go tasks m) refl h
    where
      empty : ([] ≡ turns) ⊎ Contains [] turns → rests go tasks m ≡ true
          → (is_order go tasks (Some m) turns ≡ true) × (length turns ≤ 0)
      empty (inl is) rest =
          subst (λ (ts : List ℕ). (is_order go tasks (Some m) ts ≡ true) × (length ts ≤ 0)) is
          (rest, omega arith)
      empty (inr none) rest = absurd (in_none turns none)

      by : (b : Bool) → rests go tasks m ≡ b
          → Contains {X = List ℕ} (if b then [] ∷ [] else []) turns
          → (is_order go tasks (Some m) turns ≡ true) × (length turns ≤ 0)
      by true rest inside = empty (in_cases [] [] turns inside) rest
      by false rest inside = absurd (in_none turns inside)
  listed_only (suc k) (Some m) turns h =
      by (rests go tasks m) refl h (λ n ts. listed_only k (go m n) ts)
    where
      empty : ([] ≡ turns) ⊎ Contains [] turns → rests go tasks m ≡ true
          → (is_order go tasks (Some m) turns ≡ true) × (length turns ≤ suc k)
      empty (inl is) rest =
          subst (λ (ts : List ℕ). (is_order go tasks (Some m) ts ≡ true) × (length ts ≤ suc k)) is
          (rest, omega arith)
      empty (inr none) rest = absurd (in_none turns none)

      by : (b : Bool) → rests go tasks m ≡ b
          → Contains (if b then [] ∷ [] else flat_map (begun k m) tasks) turns
          → ((n : ℕ) (ts : List ℕ) → Contains (orders go tasks k (go m n)) ts
          → (is_order go tasks (go m n) ts ≡ true) × (length ts ≤ k))
          → (is_order go tasks (Some m) turns ≡ true) × (length turns ≤ suc k)
      by true rest inside later = empty (in_cases [] [] turns inside) rest
      by false rest inside later =
          let f = flat_only (begun k m) tasks turns inside in
          let g = map_only (λ ts. f.0 ∷ ts) (orders go tasks k (go m f.0)) turns f.1.1 in
          let r = later f.0 g.0 g.1.0 in
          let short = r.1 in
          subst (λ (ts : List ℕ). (is_order go tasks (Some m) ts ≡ true) × (length ts ≤ suc k))
          g.1.1 (
            and_from (is_among f.0 tasks) (is_order go tasks (go m f.0) g.0) f.1.0 r.0,
            omega (arith, short),
          )

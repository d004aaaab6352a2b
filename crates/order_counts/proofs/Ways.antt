-- The number of ways on from a state: it is that of the listed orders, it is the same from states
-- that are alike, and it is a sum over the first turn.
use Rattle.std.proofs.Common.{◌≡◌, ℕ, zero, suc, ◌+◌, Bool, true, false, ◌&&◌, List, [], ◌∷◌, map, flat_map, count_by, Option, Some, None, is_none, option_map, if◌then◌else◌, refl, ap, sym, ◌∙◌, arith}
use Rattle.std.proofs.lemmas.Bool.{true≢false, and_parts}
use Rattle.order_counts.specs.Layers.{AreAlike, BothOrNone, ended, over, ways}
use Rattle.order_counts.specs.Orders.{led, orders, rests}
use Rattle.order_counts.specs.Rows.{one_if, passes}
use Rattle.order_counts.proofs.Lists.{count-flat, count-map, over-same}

-- a task that can't move leads nowhere
none_is : {M : Type 0} (o : Option M) → is_none o ≡ true → o ≡ None
none_is None h = refl
none_is (Some x) h = absurd (true≢false (sym h))

module _ {M O : Type 0} (go : M → ℕ → Option M) (outcome : M → O) (test : O → Bool) where
  -- if none of these tasks can move, no way goes on with one of them
  resting : (all tasks : List ℕ) (k : ℕ) (m : M) → rests go tasks m ≡ true
      → over (λ n. ways go all outcome test k (go m n)) tasks ≡ 0
  resting all [] k m h = refl
  resting all (n ∷ ns) k m h =
      let both = and_parts (is_none (go m n)) (rests go ns m) h in
      let first : ways go all outcome test k (go m n) ≡ 0
      = ap (ways go all outcome test k) (none_is (go m n) both.0) in
      let rest = resting all ns k m both.1 in
      omega (arith, first, rest)

  module _ (tasks : List ℕ) where
    -- the outcome to which the turns lead passes
    abbrev pub passing : Option M → List ℕ → Bool
    passing m ts = passes test (option_map outcome (led go m ts))

    -- the orders of a state at which the tasks rest or don't, if none of its turns is listed
    short : (p : List ℕ → Bool) (b : Bool)
        → one_if (b && p []) ≡ count_by p (if b then [] ∷ [] else [])
    short p true = omega arith
    short p false = refl

    -- the orders that begin with a turn of task n
    abbrev begun : ℕ → M → ℕ → List (List ℕ)
    begun k m n = map (λ ts. n ∷ ts) (orders go tasks k (go m n))

    -- the step of the count of orders, by whether the tasks rest
    longer : (k : ℕ) (m : M) (b : Bool) → rests go tasks m ≡ b
        → ((n : ℕ) → ways go tasks outcome test k (go m n)
        ≡ count_by (passing (Some m)) (begun k m n))
        → one_if (b && test (outcome m)) + over (λ n. ways go tasks outcome test k (go m n)) tasks
        ≡ count_by (passing (Some m)) (if b then [] ∷ [] else flat_map (begun k m) tasks)
    longer k m true h each =
        let none = resting tasks tasks k m h in
        omega (arith, none)
    longer k m false h each =
        let sums = over-same (λ n. ways go tasks outcome test k (go m n))
        (λ n. count_by (passing (Some m)) (begun k m n)) each tasks in
        let flat = count-flat (passing (Some m)) (begun k m) tasks in
        omega (arith, sums, flat)

    -- the ways on are as many as the listed orders whose outcomes pass
    pub ways_are_orders : (k : ℕ) (m : Option M)
        → ways go tasks outcome test k m ≡ count_by (passing m) (orders go tasks k m)
    ways_are_orders k None = refl
    ways_are_orders zero (Some m) = short (passing (Some m)) (rests go tasks m)
    ways_are_orders (suc k) (Some m) =
        longer k m (rests go tasks m) refl (λ n. ways_are_orders k (go m n)
        ∙ sym (count-map (passing (Some m)) (λ ts. n ∷ ts) (orders go tasks k (go m n))))

-- ---- alike states

-- either both lead on, or neither does
both_none : {M : Type 0} (Alike : M → M → Type 0) (o p : Option M) → BothOrNone Alike o p
    → is_none o ≡ is_none p
both_none Alike None None h = refl
both_none Alike None (Some b) h = absurd h
both_none Alike (Some a) None h = absurd h
both_none Alike (Some a) (Some b) h = refl

module _ {M O : Type 0} (go : M → ℕ → Option M) (tasks : List ℕ) (start : M) (outcome : M → O)
    (Alike : M → M → Type 0) (alike : AreAlike go tasks start outcome Alike) where
  -- the same tasks can move
  pub rests-alike : (ns : List ℕ) (a b : M) → Alike a b → rests go ns a ≡ rests go ns b
  rests-alike [] a b h = refl
  rests-alike (n ∷ ns) a b h =
      λ i. both_none Alike (go a n) (go b n) (alike.moves a b h n) i && rests-alike ns a b h i

  -- whether the tasks rest with an outcome that passes, by whether they rest at the first state
  ended-by : (test : O → Bool) (a b : M) → Alike a b → (r : Bool) → rests go tasks a ≡ r
      → one_if (r && test (outcome a)) ≡ one_if (r && test (outcome b))
  ended-by test a b h true rest = ap (λ o. one_if (test o)) (alike.ends a b h rest)
  ended-by test a b h false rest = refl

  ended-alike : (test : O → Bool) (a b : M) → Alike a b
      → ended go tasks outcome test a ≡ ended go tasks outcome test b
  ended-alike test a b h =
      ended-by test a b h (rests go tasks a) refl
      ∙ ap (λ r. one_if (r && test (outcome b))) (rests-alike tasks a b h)

  -- as many ways go on from alike states
  pub ways-alike : (test : O → Bool) (k : ℕ) (o p : Option M) → BothOrNone Alike o p
      → ways go tasks outcome test k o ≡ ways go tasks outcome test k p
  ways-alike test k None None h = refl
  ways-alike test k None (Some b) h = absurd h
  ways-alike test k (Some a) None h = absurd h
  ways-alike test zero (Some a) (Some b) h = ended-alike test a b h
  ways-alike test (suc k) (Some a) (Some b) h = λ i.
      ended-alike test a b h i
      + over-same (λ n. ways go tasks outcome test k (go a n))
      (λ n. ways go tasks outcome test k (go b n))
      (λ n. ways-alike test k (go a n) (go b n) (alike.moves a b h n)) tasks i

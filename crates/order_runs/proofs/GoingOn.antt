-- Orders that begin with some turns.
use Rattle.std.proofs.Common.{◌≡◌, ◌==◌, ◌||◌, ◌&&◌, ◌<◌, ◌⊎◌, ℕ, zero, suc, Bool, true, false, List, [], ◌∷◌, ◌++◌, map, flat_map, length, Option, Some, None, option_and_then, nat_cmp, is_lt, Ordering, Less, Equal, Greater, if◌then◌else◌, slice_get, refl, ap, sym, ◌∙◌, inl, inr, arith, eq-eqb}
use Rattle.std.specs.Cmp.{nat_cmp_total}
use Rattle.std.specs.Cmp.Lexicographic.{slice_cmp}
use Rattle.std.specs.Ordering.{ordering_reverse, ordering_then}
use Rattle.std.proofs.lemmas.Bool.{cases_order, true≢false}
use Rattle.std.proofs.lemmas.List.Folds.{list_any-append}
use Rattle.std.proofs.lemmas.Option.{none-some, slice_get_within}
use Rattle.order_outcomes.proofs.about_counts.Spread.{led-append}
use Rattle.order_outcomes.proofs.about_counts.Turns.{led-none}
use Rattle.order_outcomes.specs.Orders.{moved}
use Rattle.order_outcomes.specs.counts.Orders.{is_among, is_order, led, orders, rests}
use Rattle.order_outcomes.specs.reports.model.History.{Position}
use Rattle.order_outcomes.specs.reports.model.Rounds.{all_tasks, moves, moves_at, numbers}
use Rattle.order_outcomes.specs.reports.model.Scene.{Program, Scene}
use Rattle.order_outcomes.specs.reports.model.Turns.{Moment, start_of, turn}
use Rattle.order_runs.specs.Laws.{OrdersGoOn}

-- ---- whatever moves

module _ {M : Type 0} (go : M → ℕ → Option M) (tasks : List ℕ) where
  -- if only the tasks can move, an order goes on from where its first turns lead
  order_goes_on : ((m x : M) (n : ℕ) → go m n ≡ Some x → is_among n tasks ≡ true)
      → (first rest : List ℕ) (o : Option M)
      → is_order go tasks o (first ++ rest) ≡ is_order go tasks (led go o first) rest
  order_goes_on named [] rest o = refl
  order_goes_on named (n ∷ ns) rest None =
      ap (λ (o : Option M). is_order go tasks o rest) (sym (led-none go ns))
  order_goes_on named (n ∷ ns) rest (Some m) =
      by (is_among n tasks) (go m n) refl refl (order_goes_on named ns rest (go m n))
    where
      by : (b : Bool) (o : Option M) → is_among n tasks ≡ b → go m n ≡ o
          → is_order go tasks (go m n) (ns ++ rest)
          ≡ is_order go tasks (led go (go m n) ns) rest
          → (b && is_order go tasks (go m n) (ns ++ rest))
          ≡ is_order go tasks (led go (go m n) ns) rest
      by true o is at goes = goes
      by false None is at goes =
          ap (λ (x : Option M). is_order go tasks x rest)
          (sym (led-none go ns) ∙ ap (λ (x : Option M). led go x ns) (sym at))
      by false (Some x) is at goes = absurd (true≢false (sym (named m x n at) ∙ is))

  -- the orders from a state at which a task can move begin with a turn
  orders_part : (m : M) (k : ℕ) → rests go tasks m ≡ false
      → orders go tasks (suc k) (Some m)
      ≡ flat_map (λ n. map (λ turns. n ∷ turns) (orders go tasks k (go m n))) tasks
  orders_part m k is =
      ap (λ (b : Bool). if b then [] ∷ []
      else flat_map (λ n. map (λ turns. n ∷ turns) (orders go tasks k (go m n))) tasks) is

-- ---- lexicographic order

-- a number compared with itself is equal
is_equal : (o : Ordering) → o ≡ ordering_reverse o → o ≡ Equal
is_equal Less h = absurd (true≢false (ap is_lt h))
is_equal Equal h = refl
is_equal Greater h = absurd (true≢false (ap is_lt (sym h)))

same_first : (first a b : List ℕ)
    → slice_cmp nat_cmp (first ++ a) (first ++ b) ≡ slice_cmp nat_cmp a b
same_first [] a b = refl
same_first (n ∷ ns) a b =
    ap (λ (o : Ordering). ordering_then o (slice_cmp nat_cmp (ns ++ a) (ns ++ b)))
    (is_equal (nat_cmp n n) (nat_cmp_total.antisymm n n))
    ∙ same_first ns a b

-- ---- scenes

-- a number below another is among those below it
among_numbers : (k n : ℕ) → n < k → is_among n (numbers k) ≡ true
among_numbers zero n below = absurd (omega (arith, below))
among_numbers (suc k) n below =
    list_any-append (λ j. j == n) (numbers k) (k ∷ [])
    ∙ by (cases_order n k) (among_numbers k n)
  where
    or_true : (b : Bool) → (b || true) ≡ true
    or_true true = refl
    or_true false = refl

    by : (n ≡ k) ⊎ ((n < k) ⊎ (k < n)) → (n < k → is_among n (numbers k) ≡ true)
        → (is_among n (numbers k) || ((k == n) || false)) ≡ true
    by (inl same) earlier =
        ap (λ (b : Bool). is_among n (numbers k) || (b || false)) (eq-eqb k n (sym same))
        ∙ or_true (is_among n (numbers k))
    by (inr (inl less)) earlier = ap (λ (b : Bool). b || ((k == n) || false)) (earlier less)
    by (inr (inr more)) earlier = absurd (omega (arith, more, below))

module _ (scene : Scene) where
  -- only a task of the scene can move
  moved_named : (m x : Moment) (n : ℕ) → moved scene m n ≡ Some x
      → is_among n (all_tasks scene) ≡ true
  moved_named m x n at = by (moves scene m n) refl at
    where
      within : (p : Option Program) (t : Option Position) → slice_get scene.programs n ≡ p
          → moves_at scene m n p t ≡ true → is_among n (all_tasks scene) ≡ true
      within None t here is = absurd (true≢false (sym is))
      within (Some p) t here is =
          among_numbers (length scene.programs) n (slice_get_within scene.programs n p here)

      by : (b : Bool) → moves scene m n ≡ b
          → (if b then Some (turn scene m n) else None) ≡ Some x
          → is_among n (all_tasks scene) ≡ true
      by true is leads = within (slice_get scene.programs n) (slice_get m.positions n) refl is
      by false is leads = absurd (none-some x leads)

pub go_on : OrdersGoOn
go_on scene first = record {
  orders = λ rest.
      order_goes_on (moved scene) (all_tasks scene) (moved_named scene) first rest
      (Some (start_of scene));
  leads = λ rest. led-append (moved scene) (Some (start_of scene)) first rest;
  before = λ a b. ap is_lt (same_first first a b);
  parts = λ m k at is.
      orders_part (moved scene) (all_tasks scene) m k is
      ∙ ap (λ (f : ℕ → Option Moment). flat_map (λ n. map (λ turns. n ∷ turns)
      (orders (moved scene) (all_tasks scene) k (f n))) (all_tasks scene))
      (λ i n. sym (led-append (moved scene) (Some (start_of scene)) first (n ∷ [])
      ∙ ap (λ (o : Option Moment). option_and_then (λ x. moved scene x n) o) at) i);
}

-- Orders, their parts, and where they lead.
use Rattle.std.proofs.Common.{◌≡◌, ℕ, zero, suc, ◌<◌, Bool, true, List, [], ◌∷◌, ◌++◌, length, Option, Some, None, slice_get, slice_index_or, refl, ap, sym, ◌∙◌, arith}
use Rattle.std.specs.List.{list_all}
use Rattle.std.proofs.lemmas.Bool.{true≢false, and_from, and_parts}
use Rattle.std.proofs.lemmas.Option.{none-some, same_Some}
use Rattle.order_counts.specs.Orders.{is_among, is_order, led, rests}

-- the item at the place of a member
pub get_at : {X : Type 0} (xs : List X) (k : ℕ) (x : X) → k < length xs
    → slice_index_or xs k x ≡ x → slice_get xs k ≡ Some x
get_at [] k x below h = absurd (omega (arith, below))
get_at (y ∷ ys) zero x below h = ap Some h
get_at (y ∷ ys) (suc k) x below h = get_at ys k x (omega (arith, below)) h

-- no turn leads on from nowhere
pub led-none : {M : Type 0} (go : M → ℕ → Option M) (ns : List ℕ) → led go None ns ≡ None
led-none go [] = refl
led-none go (n ∷ ns) = led-none go ns

module _ {M : Type 0} (go : M → ℕ → Option M) (tasks : List ℕ) where
  abbrev pub are_named : List ℕ → Bool
  are_named ns = list_all (λ n. is_among n tasks) ns

  -- turns of the tasks that lead to a state at which they rest are an order
  pub order_from : (ns : List ℕ) (o : Option M) (m : M) → led go o ns ≡ Some m
      → are_named ns ≡ true → rests go tasks m ≡ true → is_order go tasks o ns ≡ true
  order_from [] None m leads named rest = absurd (none-some m leads)
  order_from [] (Some x) m leads named rest =
      ap (rests go tasks) (same_Some x m leads) ∙ rest
  order_from (n ∷ ns) None m leads named rest =
      absurd (none-some m (sym (led-none go ns) ∙ leads))
  order_from (n ∷ ns) (Some x) m leads named rest =
      let both = and_parts (is_among n tasks) (are_named ns) named in
      and_from (is_among n tasks) (is_order go tasks (go x n) ns) both.0
      (order_from ns (go x n) m leads both.1 rest)

  -- an order leads on from somewhere
  pub from_some : (o : Option M) (ns : List ℕ) → is_order go tasks o ns ≡ true
      → (x : M) × (o ≡ Some x)
  from_some None ns h = absurd (true≢false (sym h))
  from_some (Some x) ns h = (x, refl)

  -- the rest of an order is an order from the state to which its beginning leads
  pub order_rest : (a b : List ℕ) (o : Option M) → is_order go tasks o (a ++ b) ≡ true
      → is_order go tasks (led go o a) b ≡ true
  order_rest [] b o h = h
  order_rest (n ∷ ns) b None h = absurd (true≢false (sym h))
  order_rest (n ∷ ns) b (Some x) h =
      let both = and_parts (is_among n tasks) (is_order go tasks (go x n) (ns ++ b)) h in
      order_rest ns b (go x n) both.1

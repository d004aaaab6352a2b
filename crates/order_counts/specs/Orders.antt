-- The orders in which the steps of several tasks can fall. A state is of any type: `go m n` is the
-- state after a step of task n at the state m, or `None` if the task can't move there.
use Rattle.std.specs.Prelude.{◌≡◌, ℕ, zero, suc, ◌<◌, ◌≤◌, ◌==◌, Bool, true, false, ◌&&◌, not, Contains, List, [], ◌∷◌, length, map, slice_get, Option, Some, None, is_none, option_and_then, if◌then◌else◌}
use Rattle.std.specs.List.{flat_map, list_all, list_any}
use Rattle.std.specs.Cmp.Lexicographic.{slice_cmp}
use Rattle.std.specs.Ordering.{is_lt, nat_cmp}

abbrev pub is_among : ℕ → List ℕ → Bool
is_among n tasks = list_any (λ k. k == n) tasks

-- no number stands in the list twice
abbrev pub has_no_twins : List ℕ → Bool
has_no_twins [] = true
has_no_twins (n ∷ ns) = not (is_among n ns) && has_no_twins ns

-- the first list comes before the second in lexicographic order
abbrev pub comes_before : List ℕ → List ℕ → Bool
comes_before a b = is_lt (slice_cmp nat_cmp a b)

-- the state after these turns, if each of them moves its task
abbrev pub led : {M : Type 0} → (M → ℕ → Option M) → Option M → List ℕ → Option M
led go m [] = m
led go m (n ∷ ns) = led go (option_and_then (λ x. go x n) m) ns

-- none of the tasks can move
abbrev pub rests : {M : Type 0} → (M → ℕ → Option M) → List ℕ → M → Bool
rests go tasks m = list_all (λ n. is_none (go m n)) tasks

-- the turns are an order from the state on: each moves one of the tasks, and after the last turn
-- none of them can move
abbrev pub is_order : {M : Type 0} → (M → ℕ → Option M) → List ℕ → Option M → List ℕ → Bool
is_order go tasks None turns = false
is_order go tasks (Some m) [] = rests go tasks m
is_order go tasks (Some m) (n ∷ ns) = is_among n tasks && is_order go tasks (go m n) ns

-- the orders of at most k turns, in lexicographic order if the tasks are named in rising order
abbrev pub orders : {M : Type 0} → (M → ℕ → Option M) → List ℕ → ℕ → Option M → List (List ℕ)
orders go tasks k None = []
orders go tasks zero (Some m) = if rests go tasks m then [] ∷ [] else []
orders go tasks (suc k) (Some m) =
    if rests go tasks m then [] ∷ []
    else flat_map (λ n. map (λ turns. n ∷ turns) (orders go tasks k (go m n))) tasks

-- the list has every order of at most k turns, and nothing else, and no order twice
pub record AreListed {M : Type 0} (go : M → ℕ → Option M) (tasks : List ℕ) (k : ℕ) (m : Option M)
    : Type 0 where
  pub all : (turns : List ℕ) → is_order go tasks m turns ≡ true → length turns ≤ k
      → Contains (orders go tasks k m) turns
  pub only : (turns : List ℕ) → Contains (orders go tasks k m) turns
      → (is_order go tasks m turns ≡ true) × (length turns ≤ k)
  pub once : (a b : ℕ) (x : List ℕ) → a < b → slice_get (orders go tasks k m) a ≡ Some x
      → slice_get (orders go tasks k m) b ≡ Some x → ⊥

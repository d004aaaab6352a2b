-- Orders and rows of a small play, worked out by hand. A state has the number of turns that each
-- task has left, and the task of the last turn.
use Rattle.std.specs.Prelude.{◌≡◌, ℕ, zero, suc, Bool, true, false, List, [], ◌∷◌, Option, Some, None, get_or, slice_set}
use Rattle.order_counts.specs.Layers.{joined, over, root, ways, with_turn}
use Rattle.order_counts.specs.Orders.{comes_before, has_no_twins, is_among, is_order, led, orders, rests}
use Rattle.order_counts.specs.Rows.{Counted, one_if, outcome_after, passes, weighed}

pub record Left : Type 0 where
  pub turns : List ℕ
  pub last : ℕ

abbrev pub taken : Left → ℕ → ℕ → Option Left
taken m n zero = None
taken m n (suc more) = Some (record { turns = slice_set m.turns n more; last = n })

abbrev pub go : Left → ℕ → Option Left
go m n = taken m n (get_or m.turns n 0)

abbrev pub play : List ℕ → Left
play turns = record { turns = turns; last = 9 }

abbrev pub two : List ℕ
two = 0 ∷ 1 ∷ []

-- the outcome is the task that has the last turn
abbrev pub last_of : Left → ℕ
last_of m = m.last

abbrev pub is_first : ℕ → Bool
is_first zero = true
is_first _ = false

abbrev pub always : ℕ → Bool
always n = true

abbrev pub row : List ℕ → ℕ → Counted
row order count = record { order = order; count = count }

-- the rows of a play in which task 0 has two turns, and task 1 has one
abbrev pub rows : List Counted
rows = row (0 ∷ 0 ∷ 1 ∷ []) 1 ∷ row (0 ∷ 1 ∷ 0 ∷ []) 2 ∷ []

pub record CountExamples : Type 0 where
  -- all orders, in lexicographic order
  pub mixed : orders go two 3 (Some (play (2 ∷ 1 ∷ [])))
      ≡ (0 ∷ 0 ∷ 1 ∷ []) ∷ (0 ∷ 1 ∷ 0 ∷ []) ∷ (1 ∷ 0 ∷ 0 ∷ []) ∷ []
  -- a task that isn't named has no turn
  pub one : orders go (0 ∷ []) 3 (Some (play (2 ∷ 1 ∷ []))) ≡ (0 ∷ 0 ∷ []) ∷ []
  -- if no task can move, there is one order, without turns
  pub resting : orders go two 3 (Some (play (0 ∷ 0 ∷ []))) ≡ [] ∷ []
  -- longer orders aren't listed
  pub short : orders go two 2 (Some (play (2 ∷ 1 ∷ []))) ≡ []
  -- nothing is listed from nowhere
  pub nowhere : orders go two 3 None ≡ []
  -- an order has all turns until the tasks rest, and no turn that doesn't move its task
  pub whole : is_order go two (Some (play (2 ∷ 1 ∷ []))) (0 ∷ 1 ∷ 0 ∷ []) ≡ true
  pub unfinished : is_order go two (Some (play (2 ∷ 1 ∷ []))) (0 ∷ 1 ∷ []) ≡ false
  pub blocked : is_order go two (Some (play (2 ∷ 1 ∷ []))) (1 ∷ 1 ∷ 0 ∷ 0 ∷ []) ≡ false
  pub unnamed : is_order go (0 ∷ []) (Some (play (1 ∷ 1 ∷ []))) (1 ∷ 0 ∷ []) ≡ false
  -- where turns lead
  pub there : led go (Some (play (2 ∷ 1 ∷ []))) (0 ∷ 1 ∷ [])
      ≡ Some (record { turns = 1 ∷ 0 ∷ []; last = 1 })
  pub stuck : led go (Some (play (2 ∷ 1 ∷ []))) (1 ∷ 1 ∷ []) ≡ None
  pub rested : rests go two (play (0 ∷ 0 ∷ [])) ≡ true
  pub moving : rests go two (play (0 ∷ 1 ∷ [])) ≡ false
  -- names of tasks
  pub among : is_among 3 (1 ∷ 3 ∷ []) ≡ true
  pub not_among : is_among 2 (1 ∷ 3 ∷ []) ≡ false
  pub apart : has_no_twins (1 ∷ 3 ∷ 2 ∷ []) ≡ true
  pub twins : has_no_twins (1 ∷ 3 ∷ 1 ∷ []) ≡ false
  -- the first turn in which two orders differ decides which comes first, and else the shorter does
  pub earlier : comes_before (0 ∷ 1 ∷ 1 ∷ []) (0 ∷ 2 ∷ []) ≡ true
  pub later : comes_before (0 ∷ 2 ∷ []) (0 ∷ 1 ∷ 1 ∷ []) ≡ false
  pub longer : comes_before (0 ∷ 2 ∷ []) (0 ∷ 2 ∷ 0 ∷ []) ≡ true
  pub itself : comes_before (0 ∷ 2 ∷ []) (0 ∷ 2 ∷ []) ≡ false
  -- the orders that pass a test of their outcomes are as many as the rows say
  pub all_ways : ways go two last_of always 3 (Some (play (2 ∷ 1 ∷ []))) ≡ 3
  pub some_ways : ways go two last_of is_first 3 (Some (play (2 ∷ 1 ∷ []))) ≡ 2
  pub no_ways : ways go two last_of always 2 (Some (play (2 ∷ 1 ∷ []))) ≡ 0
  pub all_rows : weighed (λ turns. 1) rows ≡ 3
  pub some_rows : weighed (λ turns. one_if (passes is_first
      (outcome_after go last_of (play (2 ∷ 1 ∷ [])) turns))) rows ≡ 2
  -- a turn that doesn't move its task has no outcome, and passes no test
  pub no_outcome : passes always (outcome_after go last_of (play (0 ∷ [])) (0 ∷ [])) ≡ false
  -- counting begins with one way, which has no turns
  pub from_none : root ≡ row [] 1
  pub one_more : with_turn (row (0 ∷ []) 4) 1 ≡ row (0 ∷ 1 ∷ []) 4
  -- of two that are met as one, the first stands for both
  pub joined_first : joined (row (0 ∷ 1 ∷ []) 2) (row (1 ∷ 0 ∷ []) 3) ≡ row (0 ∷ 1 ∷ []) 5
  pub joined_second : joined (row (1 ∷ 0 ∷ []) 3) (row (0 ∷ 1 ∷ []) 2) ≡ row (0 ∷ 1 ∷ []) 5
  pub sums : over (λ n. n) (2 ∷ 3 ∷ []) ≡ 5

-- What is kept of a way, and what a step of counting makes of the ways of one length.
use Rattle.std.specs.Prelude.{◌≡◌, ℕ, ◌<◌, not, Bool, true, false, All, List, [], ◌∷◌, ◌++◌, ◌⊎◌, map, Option, Some, None, slice_get, slice_set}
use Rattle.order_outcomes.specs.alike.Alike.{IsAlike}
use Rattle.order_outcomes.specs.Orders.{moment_after, moved, outcome_at}
use Rattle.order_outcomes.specs.counts.Layers.{Advances, AllAdvance, IsJoined, Spreads, StandsAt, joined, root, with_turn}
use Rattle.order_outcomes.specs.counts.Orders.{comes_before, led, rests}
use Rattle.order_outcomes.specs.counts.Rows.{Counted}
use Rattle.order_outcomes.specs.reports.model.Rounds.{all_tasks}
use Rattle.order_outcomes.specs.reports.model.Scene.{Scene}
use Rattle.order_outcomes.specs.reports.model.Turns.{Moment}
use Rattle.order_runs.specs.Plays.{moment_by}
use Rattle.order_sights.specs.Sights.{IsSight}
use Rattle.order_runs.specs.Points.{IsPointAt}
use Rattle.order_runs.specs.declared.part.Part.{Part}
use Rattle.order_runs.specs.declared.rows.Row.{Row}
use Rattle.order_runs.specs.declared.ways.Way.{Way}

-- ---- the first turns

-- the moment to which the first turns lead, if each of them moves its task
abbrev pub opening : Part → Option Moment
opening part = moment_after part.play part.first.items

-- the moment after the first turns
abbrev pub begun : Part → Moment
begun part = moment_by part.play part.first.items

-- the moment after these turns more, if each of them moves its task
abbrev pub led_on : Part → List ℕ → Option Moment
led_on part turns = led (moved part.play) (Some (begun part)) turns

-- ---- ways

-- Each turn of the way moves its task. What is seen of it is the run of all its turns, which begin
-- with the first ones
pub record IsWayOf (part : Part) (way : Way) : Type 0 where
  pub at : Moment
  pub leads : led_on part way.counted.order ≡ Some at
  pub some : 0 < way.counted.count
  pub turns : way.point.turns ≡ part.first.items ++ way.counted.order
  pub point : IsPointAt part.play at way.point

-- the way that ends with the first turns
abbrev pub IsRoot : Part → Way → Type 0
IsRoot part way = (way.counted ≡ root) × IsWayOf part way

abbrev pub counted_ways : List Way → List Counted
counted_ways ways = map (λ (w : Way). w.counted) ways

-- the turn of the task leads to no moment, or on by the longer way
abbrev pub IsTurned : Part → Way → ℕ → Option Moment → Option Way → Type 0
IsTurned part way task None None = Unit {0}
IsTurned part way task (Some m) (Some longer) =
    (longer.counted ≡ with_turn way.counted task) × IsWayOf part longer
IsTurned part way task _ _ = ⊥

-- the second way can be met as the first, and doesn't come before it
pub record CanMeet (way longer : Way) : Type 0 where
  pub alike : (scene : Scene) (m n : Moment) → IsSight scene m way.point.sight
      → IsSight scene n longer.point.sight → IsAlike scene m n
  pub first : comes_before longer.counted.order way.counted.order ≡ false

-- a way has the count of another one too, which can be met as it
pub record IsMetAs (old : List Way) (way : Way) (new : List Way) : Type 0 where
  pub place : ℕ
  pub before : Way
  pub at : slice_get old place ≡ Some before
  pub meets : CanMeet before way
  pub set : new
      ≡ slice_set old place (record before { counted = joined before.counted way.counted })

-- the way is met as one of the ways, or they stay as they are
abbrev pub IsMet : Bool → List Way → Way → List Way → Type 0
IsMet true old way new = IsMetAs old way new
IsMet false old way new = new ≡ old

-- the way is one of the ways, or is met as one of them
abbrev pub IsWayAdded : List Way → Way → List Way → Type 0
IsWayAdded old way new = (new ≡ old ++ way ∷ []) ⊎ IsMetAs old way new

-- the longer one is added, if there is one
abbrev pub AreAdded : List Way → Option Way → List Way → Type 0
AreAdded old None new = new ≡ old
AreAdded old (Some way) new = IsWayAdded old way new

-- the ways on from one way, which ends if there are none
pub record IsSpread (part : Part) (way : Way) (m : Moment) (old new : List Way) (any : Bool)
    : Type 0 where
  pub spreads : All (IsWayOf part) old
      → Spreads (moved part.play) (IsAlike part.play) (begun part) m way.counted
      (all_tasks part.play) (counted_ways old) (counted_ways new)
  pub kept : All (IsWayOf part) old → All (IsWayOf part) new
  pub none : any ≡ not (rests (moved part.play) (all_tasks part.play) m)

-- ---- rows

abbrev pub counted_rows : List Row → List Counted
counted_rows rows = map (λ (r : Row). r.counted) rows

-- the row has the outcome of its order, from this moment on
abbrev pub HasOutcomeFrom : Scene → Option Moment → Row → Type 0
HasOutcomeFrom scene from row = (m : Moment) × ((led (moved scene) from row.counted.order ≡ Some m)
    × (row.outcome ≡ outcome_at scene m))

abbrev pub HasOutcome : Part → Row → Type 0
HasOutcome part row = HasOutcomeFrom part.play (Some (begun part)) row

-- no row has the outcome
abbrev pub HasNone : List Row → List ℕ → Type 0
HasNone rows outcome = All (λ (r : Row). r.outcome ≡ outcome → ⊥) rows

-- an order joined the row of its outcome
pub record IsJoinedTo (old : List Row) (row : Row) (new : List Row) : Type 0 where
  pub place : ℕ
  pub before : Row
  pub after : Row
  pub at : slice_get old place ≡ Some before
  pub same : before.outcome ≡ row.outcome
  pub kept : after.outcome ≡ before.outcome
  pub joined : IsJoined before.counted row.counted after.counted
  pub set : new ≡ slice_set old place after

-- an order is counted in the row of its outcome, or in a new one
abbrev pub IsRowAdded : List Row → Row → List Row → Type 0
IsRowAdded old row new =
    ((new ≡ old ++ row ∷ []) × HasNone old row.outcome) ⊎ IsJoinedTo old row new

-- no two rows have the same outcome
abbrev pub AreApart : List Row → Type 0
AreApart rows = (a b : ℕ) (x y : Row) → a < b → slice_get rows a ≡ Some x
    → slice_get rows b ≡ Some y → x.outcome ≡ y.outcome → ⊥

-- ---- layers

-- the ways on from one way and the rows after them
pub record IsAdvanced (part : Part) (way : Way) (next : List Way) (rows : List Row)
    (next' : List Way) (rows' : List Row) : Type 0 where
  pub advances : All (IsWayOf part) next → All (HasOutcome part) rows
      → Advances (moved part.play) (all_tasks part.play) (begun part) (outcome_at part.play)
      (IsAlike part.play) way.counted (counted_ways next) (counted_rows rows) (counted_ways next')
      (counted_rows rows')
  pub kept : All (IsWayOf part) next → All (IsWayOf part) next'
  pub outcomes : All (HasOutcome part) rows → All (HasOutcome part) rows'
  pub apart : All (HasOutcome part) rows → AreApart rows → AreApart rows'

-- the ways on from all ways of a layer, and the rows after them
pub record IsStep (part : Part) (layer : List Way) (rows : List Row) (next : List Way)
    (rows' : List Row) : Type 0 where
  pub advances : All (HasOutcome part) rows
      → AllAdvance (moved part.play) (all_tasks part.play) (begun part) (outcome_at part.play)
      (IsAlike part.play) (counted_ways layer) [] (counted_rows rows) (counted_ways next)
      (counted_rows rows')
  pub kept : All (IsWayOf part) next
  pub outcomes : All (HasOutcome part) rows → All (HasOutcome part) rows'
  pub apart : All (HasOutcome part) rows → AreApart rows → AreApart rows'

-- the ways after k turns, and the rows of the orders that have ended
pub record IsLayer (part : Part) (k : ℕ) (layer : List Way) (rows : List Row) : Type 0 where
  pub stands : StandsAt (moved part.play) (all_tasks part.play) (begun part) (outcome_at part.play)
      (IsAlike part.play) k (counted_ways layer) (counted_rows rows)
  pub kept : All (IsWayOf part) layer
  pub outcomes : All (HasOutcome part) rows
  pub apart : AreApart rows

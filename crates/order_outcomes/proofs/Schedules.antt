-- A run whose schedule is an order has the outcome of the order.
use Rattle.std.proofs.Common.{◌≡◌, ℕ, Bool, true, false, List, [], ◌∷◌, Some, None, option_map, if◌then◌else◌, refl, ap, sym, ◌∙◌}
use Rattle.std.proofs.lemmas.Bool.{true≢false, and_parts}
use Rattle.order_counts.specs.Orders.{is_among, is_order, led}
use Rattle.report_text.specs.model.EndedValue.{ended_of}
use Rattle.report_text.specs.model.Rounds.{all_tasks, moves}
use Rattle.report_text.specs.model.Scene.{Scene}
use Rattle.report_text.specs.model.Turns.{Moment, start_of, turn, turns_of}
use Rattle.order_outcomes.specs.Laws.{ScheduleHasOutcome}
use Rattle.order_outcomes.specs.Orders.{moved, outcome_at}
use Rattle.order_outcomes.specs.Outcome.{outcome_of}

-- the turns of an order from a moment lead where the same turns of a schedule lead
pub leads : (scene : Scene) (tasks turns : List ℕ) (m : Moment)
    → is_order (moved scene) tasks (Some m) turns ≡ true
    → led (moved scene) (Some m) turns ≡ Some (turns_of scene m turns)
leads scene tasks [] m h = refl
leads scene tasks (n ∷ ns) m h =
    by (moves scene m n) (and_parts (is_among n tasks)
    (is_order (moved scene) tasks (moved scene m n) ns) h).1
    (leads scene tasks ns (turn scene m n))
  where
    by : (b : Bool)
        → is_order (moved scene) tasks (if b then Some (turn scene m n) else None) ns ≡ true
        → (is_order (moved scene) tasks (Some (turn scene m n)) ns ≡ true
        → led (moved scene) (Some (turn scene m n)) ns
        ≡ Some (turns_of scene (turn scene m n) ns))
        → led (moved scene) (if b then Some (turn scene m n) else None) ns
        ≡ Some (turns_of scene (turn scene m n) ns)
    by true rest on = on rest
    by false rest on = absurd (true≢false (sym rest))

pub has_outcome : ScheduleHasOutcome
has_outcome scene turns run h is =
    ap (option_map (outcome_at scene)) (leads scene (all_tasks scene) turns (start_of scene) h)
    ∙ ap (λ r. Some (outcome_of (ended_of scene r))) (sym is)

use Rattle.std.proofs.Common.{ℕ, [], ◌∷◌, ◌+◌, append-nil, drop, get_or, refl, sym, ◌∙◌, arith}
use Rattle.std.proofs.lemmas.List.{at_drop_all, at_drop_more}
use Rattle.view_lanes.specs.Lanes.{bottom_from, lane_at, lane_height, lane_seats, lanes_from, seats_from}
use Rattle.list_lemmas.proofs.Remaining.{none_left, one_less}
use Rattle.view_lanes.proofs.lanes.push_lanes.Goals as goal

pub loop-task-preserved : goal.loop-task-preserved
loop-task-preserved c =
    let i : ℕ = c.loop-task.task-index in
    let top : ℕ = c.loop-task.top in
    let task : ℕ = get_or c.args.tasks.now i 0 in
    let next : ℕ = top + lane_height task c.args.bars.now in
    record {
      small = omega (arith, c.in_ok-height.ensures.small);
      lanes = rw c.in_ok-height.ensures.height
          (one_less c.loop-task.lanes.items (lanes_from top c.args.bars.now) c.args.tasks.now i 0
          (lane_at top task c.args.bars.now ∷ [])
          (lanes_from next c.args.bars.now (drop (i + 1) c.args.tasks.now))
          c.loop-task-test.true refl c.loop-task.invariant.lanes
          (rw c.in_ok-height.ensures.height at c.in_ok-push.ensures.items));
      seats = rw c.in_ok-height.ensures.height
          (one_less c.loop-task.seats.items (seats_from top c.args.bars.now) c.args.tasks.now i 0
          (lane_seats top task c.args.bars.now)
          (seats_from next c.args.bars.now (drop (i + 1) c.args.tasks.now))
          c.loop-task-test.true refl c.loop-task.invariant.seats c.in_ok-height.ensures.is);
      bottom = rw c.in_ok-height.ensures.height
          (sym (at_drop_more (bottom_from top c.args.bars.now) c.args.tasks.now i 0
          c.loop-task-test.true)
          ∙ c.loop-task.invariant.bottom);
    }

pub returns-clause-lanes : goal.returns-clause-lanes
returns-clause-lanes c =
    sym (append-nil c.loop-task.lanes.items)
    ∙ none_left c.loop-task.lanes.items (lanes_from c.loop-task.top c.args.bars.now)
    c.args.tasks.now c.loop-task.task-index c.loop-task-test.false c.loop-task.invariant.lanes

pub returns-clause-seats : goal.returns-clause-seats
returns-clause-seats c =
    sym (append-nil c.loop-task.seats.items)
    ∙ none_left c.loop-task.seats.items (seats_from c.loop-task.top c.args.bars.now)
    c.args.tasks.now c.loop-task.task-index c.loop-task-test.false c.loop-task.invariant.seats

pub returns-clause-bottom : goal.returns-clause-bottom
returns-clause-bottom c =
    sym (at_drop_all (bottom_from c.loop-task.top c.args.bars.now) c.args.tasks.now
    c.loop-task.task-index c.loop-task-test.false)
    ∙ c.loop-task.invariant.bottom

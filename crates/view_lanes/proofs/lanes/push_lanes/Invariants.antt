use Rattle.std.proofs.Common.{◌≡◌, ◌+◌, ◌*◌, ◌≤◌, ◌++◌, drop}
use Rattle.view_lanes.specs.Lanes.{bottom_from, lanes_from, lanes_top, seats_from}
use Rattle.view_lanes.proofs.lanes.push_lanes.Given as goal

-- the lanes and seats so far, and those of the other tasks
abbrev pub invariant-loop-task : goal.invariant-loop-task
invariant-loop-task l = record {
  small : l.top ≤ 68 + 5500 * l.task-index;
  lanes : l.lanes.items ++ lanes_from l.top l.bars (drop l.task-index l.tasks)
      ≡ l.fn.lanes.items ++ lanes_from lanes_top l.bars l.tasks;
  seats : l.seats.items ++ seats_from l.top l.bars (drop l.task-index l.tasks)
      ≡ l.fn.seats.items ++ seats_from lanes_top l.bars l.tasks;
  bottom : bottom_from l.top l.bars (drop l.task-index l.tasks)
      ≡ bottom_from lanes_top l.bars l.tasks;
}

use Rattle.std.proofs.Common.{◌≡◌, ◌≤◌, drop, length}
use Rattle.view_lanes.specs.Lanes.{tasks_from, tasks_of}
use Rattle.view_lanes.proofs.actors.tasks.Given as goal

-- the tasks so far, to which those of the other events come
abbrev pub invariant-loop-column : goal.invariant-loop-column
invariant-loop-column l = record {
  few : length l.tasks.items ≤ l.column-index;
  same : tasks_from l.tasks.items (drop l.column-index l.columns) ≡ tasks_of l.columns;
}

use Rattle.std.proofs.Common.{◌≡◌, ◌+◌, ◌≤◌, drop}
use Rattle.run_model.specs.steps.Handles.{names_of}
use Rattle.task_state.proofs.handles.names_of.Given as goal

-- the count so far plus the names still to come is the total
abbrev pub invariant-loop-handle : goal.invariant-loop-handle
invariant-loop-handle l = record {
  counted : l.count + names_of l.inode l.file (drop l.handle-index l.handles)
      ≡ names_of l.inode l.file l.handles;
  within : l.count ≤ l.handle-index;
}

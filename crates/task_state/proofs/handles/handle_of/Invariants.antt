use Rattle.std.proofs.Common.{◌≡◌, drop}
use Rattle.run_model.specs.steps.Handles.{handle_of}
use Rattle.task_state.proofs.handles.handle_of.Given as goal

-- none so far has the name
abbrev pub invariant-loop-handle : goal.invariant-loop-handle
invariant-loop-handle l = handle_of l.name (drop l.handle-index l.handles)
    ≡ handle_of l.name l.handles

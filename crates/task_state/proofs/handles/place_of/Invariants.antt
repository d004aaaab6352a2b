use Rattle.std.proofs.Common.{◌≡◌, ◌++◌, take, drop}
use Rattle.run_model.specs.steps.Handles.{without}
use Rattle.task_state.proofs.handles.place_of.Given as goal

-- none so far has the name
abbrev pub invariant-loop-place : goal.invariant-loop-place
invariant-loop-place l = without l.name l.handles ≡ take l.place l.handles
    ++ without l.name (drop l.place l.handles)

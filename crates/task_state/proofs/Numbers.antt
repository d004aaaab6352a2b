-- The number of a step within its call.
use Rattle.std.proofs.Common.{◌≡◌, Bool, Option, None, Some, refl}
use Rattle.std.specs.Prelude.{unwrap_or}
use Rattle.run_model.specs.steps.CallState.{CallState, Progress, begun, number_of}
use Rattle.run_model.specs.steps.declared.call.Call.{Call}
use Rattle.task_state.specs.Value.{step_of}

-- a call that is to begin has the step number 0
number_by : (o : Option Progress) (g : Progress) → g.step ≡ 0 → (unwrap_or o g).step ≡ step_of o
number_by None g h = h
number_by (Some x) g h = refl

-- the number of the next step doesn't depend on the call
pub number_is : (admin : Bool) (c : Call) (m : CallState) → number_of admin c m ≡ step_of m.progress
number_is admin c m = number_by m.progress (begun admin m.handles c) refl

-- The contract view of a task's state.
use Rattle.std.specs.Prelude.{◌≡◌, ℕ, Bool, Option, None, Some, is_none, option_map}
use Rattle.run_model.specs.policy.ActionValue.{ActionValue}
use Rattle.run_model.specs.steps.CallState as call_states
use Rattle.run_model.specs.steps.CallState.{CallState, progress_of}
use Rattle.run_model.specs.steps.declared.ask.Ask.{Ask}
use Rattle.run_model.specs.steps.declared.call.Call.{Call}
use Rattle.run_model.specs.steps.declared.call.Call.TheVariants as call
use Rattle.run_model.specs.History.{Position, call_at}
use Rattle.run_model.specs.Scene.{Program}
use Rattle.task_state.specs.declared.progress.Progress.{Progress}

-- the program, the position and replies, the action of the last check, and the number of further
-- steps for which there is room
pub record TaskValue : Type 0 where
  pub program : Program
  pub position : Position
  pub checked : ActionValue
  pub spare : ℕ

-- the same task; only its room may differ
pub record IsSameTask (old new : TaskValue) : Type 0 where
  pub program : new.program ≡ old.program
  pub position : new.position ≡ old.position
  pub checked : new.checked ≡ old.checked

abbrev pub progress_in : Progress → call_states.Progress
progress_in g = record { due = g.due; step = g.step; inode = g.inode; file = g.file; how = g.how }

-- what the next step asks for, if the program isn't over
abbrev pub due_at : Program → CallState → Option Ask
due_at p m = option_map (λ (c : Call). (progress_of p.cred.admin c m).due.ask) (call_at p m)

-- whether the program has no further step
abbrev pub is_over : Program → CallState → Bool
is_over p m = is_none (call_at p m)

-- the number of the next step within its call; 0 if the call is to begin
abbrev pub step_of : Option call_states.Progress → ℕ
step_of None = 0
step_of (Some g) = g.step

-- the semaphore that the call waits for
abbrev pub awaited_by : Option Call → Option ℕ
awaited_by (Some (call.Wait sem)) = Some sem
awaited_by _ = None

-- How a task goes on after its turn.
use Rattle.std.specs.Prelude.{◌≡◌, ℕ, Result, Ok, Err, unwrap_or}
use Rattle.inode_meta.specs.declared.appraisal.Mode.{Mode}
use Rattle.run_model.specs.History.{resume}
use Rattle.run_model.specs.declared.turn.Turn.{Turn}
use Rattle.run_model.specs.declared.turn.Turn.TheVariants as turns
use Rattle.task_state.specs.Value.{TaskValue}
use Rattle.world_locks.specs.acts.Turning.{answer_of}
use Rattle.world_locks.specs.acts.declared.answers.StepResult.{StepResult}
use Rattle.world_locks.specs.acts.declared.answers.TurnResult.{TurnResult}
use Rattle.world_locks.specs.acts.declared.answers.TurnResult.TheVariants as turn_result

-- the turn, without its answer
abbrev pub turn_of : TurnResult → Turn
turn_of turn_result.Over = turns.Done
turn_of turn_result.Blocked = turns.Blocked
turn_of (turn_result.Told a) = turns.Moved

-- how the turn of a step that can't be blocked ended
abbrev pub turn_told : {E : Type 0} → Result StepResult E → Result TurnResult E
turn_told (Ok a) = Ok (turn_result.Told a)
turn_told (Err e) = Err e

-- the task took this answer
pub record Resumes (mode : Mode) (old new : TaskValue) (a : StepResult) : Type 0 where
  pub program : new.program ≡ old.program
  pub position : (rules : ℕ)
      → new.position ≡ resume mode old.program old.position (answer_of a rules)
  pub checked : new.checked ≡ unwrap_or a.action old.checked

-- the task took the answer of its turn, or is as it was if there is none
abbrev pub GoesOn : Mode → TaskValue → TaskValue → TurnResult → Type 0
GoesOn mode old new (turn_result.Told a) = Resumes mode old new a
GoesOn mode old new turn_result.Over = new ≡ old
GoesOn mode old new turn_result.Blocked = new ≡ old

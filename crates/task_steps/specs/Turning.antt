-- How a turn changes its task and its world.
use Rattle.std.specs.Prelude.{◌≡◌, ℕ, List, ◌∷◌, Option, Some, None, Result, Ok, Err, unwrap_or}
use Rattle.call_steps.specs.Steps.{given}
use Rattle.run_model.specs.History.{Answer, Position, resume, step_at}
use Rattle.run_model.specs.Scene.{Program}
use Rattle.run_model.specs.Turns.{State, Turned, step_task}
use Rattle.run_model.specs.declared.turn.Turn.{Turn}
use Rattle.run_model.specs.declared.turn.Turn.TheVariants as turns
use Rattle.task_steps.specs.declared.answers.StepResult.{StepResult}
use Rattle.task_steps.specs.declared.answers.TurnResult.{TurnResult}
use Rattle.task_steps.specs.declared.answers.TurnResult.TheVariants as turn_result
use Rattle.task_steps.specs.worlds.WorldConsts.{WorldConsts, mode_in, scene_of}
use Rattle.task_steps.specs.worlds.Tasks.{HasPlayed, PassesValue, Tasked, action_by}
use Rattle.task_steps.specs.worlds.declared.hash_state.HashState.{HashState}
use Rattle.task_steps.specs.worlds.Plays.{HasResumed, task_after, task_left}
use Rattle.task_steps.specs.task_states.Value.{TaskValue}

abbrev pub turned_to : State → Position → Turn → Turned
turned_to state position turn = record { state = state; position = position; turn = turn }

-- one turn of the task, whatever the programs of the others are
abbrev pub Goes : WorldConsts → Tasked → State → Turned → Type 0
Goes consts t old after = (programs : List Program)
    → step_task (scene_of consts programs) t.number t.task_state.program old t.task_state.position
    ≡ after

-- the answer to a step; for a check, `rules` is the number of rules in force
abbrev pub answer_of : StepResult → ℕ → Answer
answer_of a rules =
    record { place = a.place; told = a.told; action = given a.action; rules = rules }

-- the step was made with this answer
pub record Tells (consts : WorldConsts) (t : Tasked) (old new : State) (passes : PassesValue)
    (g : HashState) (a : StepResult) : Type 0 where
  pub rules : ℕ
  -- only a check has an action
  pub checked : unwrap_or a.action t.task_state.checked
      ≡ action_by (step_at t.task_state.program t.task_state.position.call_state)
      (answer_of a rules) t.task_state.checked
  pub plays : (h : List Answer) (task_state : TaskValue) → HasPlayed consts t h
      → HasResumed consts t (answer_of a rules) task_state
      → HasPlayed consts (task_after t task_state passes g) (answer_of a rules ∷ h)
  pub goes : Goes consts t old (turned_to new
      (resume (mode_in consts) t.task_state.program t.task_state.position (answer_of a rules))
      turns.Moved)

-- the task has made no step, so its history is as before
abbrev pub StillPlays : WorldConsts → Tasked → PassesValue → HashState → Type 0
StillPlays consts t passes g =
    (h : List Answer) → HasPlayed consts t h → HasPlayed consts (task_left t passes g) h

pub record Stops (consts : WorldConsts) (t : Tasked) (old new : State) (passes : PassesValue)
    (g : HashState) (turn : Turn) : Type 0 where
  pub plays : StillPlays consts t passes g
  pub goes : Goes consts t old (turned_to new t.task_state.position turn)

pub record Fails (consts : WorldConsts) (t : Tasked) (old new : State) (passes : PassesValue)
    (g : HashState) : Type 0 where
  pub plays : StillPlays consts t passes g
  pub state : new ≡ old

abbrev pub TurnsTo : {E : Type 0} → WorldConsts → Tasked → State → State → PassesValue → HashState
    → Result TurnResult E → Type 0
TurnsTo consts t old new passes g (Ok (turn_result.Told a)) = Tells consts t old new passes g a
TurnsTo consts t old new passes g (Ok turn_result.Blocked) =
    Stops consts t old new passes g turns.Blocked
TurnsTo consts t old new passes g (Ok turn_result.Over) = Stops consts t old new passes g turns.Done
TurnsTo consts t old new passes g (Err e) = Fails consts t old new passes g

-- how a turn ended, by the answer to its step
abbrev pub turn_result_of : {E : Type 0} → Result (Option StepResult) E → Result TurnResult E
turn_result_of (Ok (Some a)) = Ok (turn_result.Told a)
turn_result_of (Ok None) = Ok turn_result.Blocked
turn_result_of (Err e) = Err e

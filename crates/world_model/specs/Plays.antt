-- How an event on an inode changes its task.
use Rattle.std.specs.Prelude.{◌≡◌, ℕ, length, List, [], ◌∷◌, Option, Some, None, slice_get}
use Rattle.inode_events.specs.Asked.{outcome}
use Rattle.inode_events.specs.NewestFirst.{newest_first}
use Rattle.inode_events.specs.State.{metadata}
use Rattle.inode_events.specs.declared.deed.Deed.{Deed}
use Rattle.inode_events.specs.declared.deed.Deed.TheVariants as deed
use Rattle.inode_events.specs.declared.told.Told.{Told}
use Rattle.call_steps.specs.CallState.{Step}
use Rattle.call_steps.specs.CallState.{Does, Checks}
use Rattle.policy_rules.specs.declared.access.Action.{Action}
use Rattle.policy_rules.specs.declared.rule.Func.{Func}
use Rattle.run_model.specs.History.{Answer, plain_answer, resume, step_at, who_at}
use Rattle.run_model.specs.Scene.{decided, rules_with}
use Rattle.run_model.specs.Turns.{State}
use Rattle.world_model.specs.WorldConsts.{InodeConsts, WorldConsts, inode_in, mode_in, scene_of, super_at}
use Rattle.world_model.specs.Tasks.{HasPlayed, PassesValue, Tasked, action_by}
use Rattle.world_model.specs.declared.hash_state.HashState.{HashState}
use Rattle.world_model.specs.Events.{EventOn}
use Rattle.world_model.specs.task_states.Value.{TaskValue}

-- the task unchanged but for its passes and what it has hashed
abbrev pub task_left : Tasked → PassesValue → HashState → Tasked
task_left t passes g = record t { hash_state = g; passes = passes }

-- the task's state after the answer
pub record HasResumed (consts : WorldConsts) (t : Tasked) (a : Answer)
    (task_state : TaskValue) : Type 0 where
  pub program : task_state.program ≡ t.task_state.program
  pub position : task_state.position
      ≡ resume (mode_in consts) t.task_state.program t.task_state.position a
  pub checked : task_state.checked
      ≡ action_by (step_at t.task_state.program t.task_state.position.call_state) a
      t.task_state.checked

abbrev pub task_after : Tasked → TaskValue → PassesValue → HashState → Tasked
task_after t task_state passes g = record t {
  task_state = task_state;
  hash_state = g;
  passes = passes;
}

-- an event on an inode, with the outcome told to the task, makes the history longer
abbrev pub EventIsPlayed : Type 0
EventIsPlayed = (consts : WorldConsts) (t : Tasked) (h : List Answer) (i : ℕ) (s : InodeConsts)
    (d : Deed)
    (told : Told) (old new : State) (passes : PassesValue) (g : HashState) (task_state : TaskValue)
    → HasPlayed consts t h
    → step_at t.task_state.program t.task_state.position.call_state ≡ Some (Does i d)
    → slice_get consts.each_inode i ≡ Some s
    → (e : EventOn consts i s
    (who_at t.number t.task_state.program t.task_state.position.call_state) d old new
    t.passes passes t.hash_state g (Some told))
    → Some told ≡ outcome (inode_in consts s) old.list d (newest_first e.journal)
    → HasResumed consts t (plain_answer (length e.journal) told) task_state
    → HasPlayed consts (task_after t task_state passes g) (plain_answer (length e.journal) told ∷ h)

-- the answer to a check
abbrev pub check_answer : ℕ → Told → Action → ℕ → Answer
check_answer place t action rules =
    record { place = place; told = t; action = action; rules = rules }

-- a check that is decided by all rules in force makes the history longer
abbrev pub CheckIsPlayed : Type 0
CheckIsPlayed = (consts : WorldConsts) (t : Tasked) (h : List Answer) (i : ℕ) (s : InodeConsts)
    (file : ℕ)
    (func : Func) (mask : ℕ) (action : Action) (rules : ℕ) (told : Told) (old new : State)
    (passes : PassesValue) (g : HashState) (task_state : TaskValue)
    → HasPlayed consts t h
    → step_at t.task_state.program t.task_state.position.call_state ≡ Some (Checks i file func mask)
    → slice_get consts.each_inode i ≡ Some s
    → (e : EventOn consts i s
    (who_at t.number t.task_state.program t.task_state.position.call_state)
    (deed.Check file func action rules) old new t.passes passes t.hash_state g (Some told))
    → Some told ≡ outcome (inode_in consts s) old.list (deed.Check file func action rules)
    (newest_first e.journal)
    → passes.rules.seen ≡ old.added
    → rules ≡ length (rules_with (scene_of consts []) old.added)
    → action ≡ decided (rules_with (scene_of consts []) old.added) t.task_state.program.cred
    (super_at consts s.place) (metadata (newest_first e.journal)) func mask
    → HasResumed consts t (check_answer (length e.journal) told action rules) task_state
    → HasPlayed consts (task_after t task_state passes g)
    (check_answer (length e.journal) told action rules ∷ h)

-- the step does this deed on the inode of this number; a check has an action that the rules gave
abbrev pub IsStepFor : ℕ → Deed → Option Step → Type 0
IsStepFor i d (Some (Does j e)) = (j ≡ i) × (e ≡ d)
IsStepFor i d (Some (Checks j file func mask)) = j ≡ i
IsStepFor i d _ = ⊥

-- a deed that was blocked or ran out of memory leaves the history as it was
abbrev pub NoneIsPlayed : Type 0
NoneIsPlayed = (consts : WorldConsts) (t : Tasked) (h : List Answer) (i : ℕ) (s : InodeConsts)
    (d : Deed) (old new : State) (passes : PassesValue) (g : HashState) → HasPlayed consts t h
    → IsStepFor i d (step_at t.task_state.program t.task_state.position.call_state)
    → slice_get consts.each_inode i ≡ Some s
    → EventOn consts i s (who_at t.number t.task_state.program t.task_state.position.call_state) d
    old new t.passes passes t.hash_state g None
    → HasPlayed consts (task_left t passes g) h

-- How one step changes its task.
use Rattle.std.specs.Prelude.{◌≡◌, ℕ, ◌<◌, ◌++◌, All, List, [], ◌∷◌, length, Option, Some, slice_get}
use Rattle.grow_list.specs.Shown.{Passed}
use Rattle.inode_meta.specs.declared.step.Who.{Who}
use Rattle.inode_events.specs.Checks.{no_action}
use Rattle.inode_events.specs.declared.told.Event.{Event}
use Rattle.call_steps.specs.CallState.{Step}
use Rattle.world_model.specs.laws_of_runs.Logs.{logged}
use Rattle.world_model.specs.laws_of_runs.Steps.{Made, RisesWithin}
use Rattle.world_model.specs.laws_of_runs.Checks.{ChecksFit, seen_by}
use Rattle.run_model.specs.History.{Answer, event_in, position, resume, rule_in, signal_in, start, step_at, who_at}
use Rattle.run_model.specs.Scene.{Program}
use Rattle.world_model.specs.WorldConsts.{WorldConsts, mode_in, scene_of}
use Rattle.world_model.specs.Tasks.{AreCallsOf, ArePassesOf, AreUnused, HashesFor, HasPlayed, Tasked, action_by}

-- the task's pass of journal i after the step
pub record InodeStepped (who : Who) (step : Option Step) (a : Answer) (i : ℕ)
    (old : List (Passed Event)) (new : Passed Event) : Type 0 where
  pub before : Passed Event
  pub at : slice_get old i ≡ Some before
  pub name : new.name ≡ before.name
  pub number : new.number ≡ before.number
  pub mine : new.mine ≡ before.mine ++ event_in i who step a
  pub placed : All (λ x. x.0 < length before.seen) before.mine
      → All (λ x. x.0 < length new.seen) new.mine

-- the pass after the step, which adds these entries to it
pub record Adds {E : Type 0} (old new : Passed E) (entries : List (ℕ × E)) : Type 0 where
  pub name : new.name ≡ old.name
  pub number : new.number ≡ old.number
  pub mine : new.mine ≡ old.mine ++ entries

-- the task after a step with this answer
pub record HasStepped (consts : WorldConsts) (t t2 : Tasked) (a : Answer) : Type 0 where
  pub number : t2.number ≡ t.number
  pub program : t2.task_state.program ≡ t.task_state.program
  pub stands : t2.task_state.position
      ≡ resume (mode_in consts) t.task_state.program t.task_state.position a
  pub checked : t2.task_state.checked
      ≡ action_by (step_at t.task_state.program t.task_state.position.call_state) a
      t.task_state.checked
  pub even : length t2.passes.inodes ≡ length t.passes.inodes
  pub inodes : (i : ℕ) (q : Passed Event) → slice_get t2.passes.inodes i ≡ Some q
      → InodeStepped (who_at t.number t.task_state.program t.task_state.position.call_state)
      (step_at t.task_state.program t.task_state.position.call_state) a i t.passes.inodes q
  pub sems : Adds t.passes.sems t2.passes.sems
      (signal_in (who_at t.number t.task_state.program t.task_state.position.call_state)
      (step_at t.task_state.program t.task_state.position.call_state) a)
  pub rules : Adds t.passes.rules t2.passes.rules
      (rule_in (who_at t.number t.task_state.program t.task_state.position.call_state)
      (step_at t.task_state.program t.task_state.position.call_state) a)
  pub book : Adds t.passes.book t2.passes.book []
  pub checks : (programs : List Program) (h : List Answer)
      → (position (mode_in consts) t.task_state.program h).call_state
      ≡ t.task_state.position.call_state → ChecksFit (scene_of consts programs) t.task_state.program
      (seen_by t.passes.inodes t.passes.rules) h
      → ChecksFit (scene_of consts programs) t.task_state.program
      (seen_by t2.passes.inodes t2.passes.rules) (a ∷ h)
  pub rises : (steps : List Made) → RisesWithin steps t.passes.book.seen
      → RisesWithin (logged (who_at t.number t.task_state.program t.task_state.position.call_state)
      (step_at t.task_state.program t.task_state.position.call_state) a ++ steps)
      t2.passes.book.seen
  pub hashed : HashesFor consts t2.passes.inodes t2.hash_state
      (step_at t.task_state.program t2.task_state.position.call_state)

-- ---- the laws

-- a task that has made no step is a task of every world whose passes it has
abbrev pub FreshIsTask : Type 0
FreshIsTask = (consts : WorldConsts) (t : Tasked)
    → AreCallsOf (length consts.each_inode) t.task_state.program.calls
    → t.task_state.position ≡ start → t.task_state.checked ≡ no_action
    → ArePassesOf consts t.number t.passes → AreUnused t.passes → HasPlayed consts t []

-- a step and its answer make the history longer
abbrev pub StepIsPlayed : Type 0
StepIsPlayed = (consts : WorldConsts) (t t2 : Tasked) (h : List Answer) (a : Answer)
    → HasPlayed consts t h → HasStepped consts t t2 a → HasPlayed consts t2 (a ∷ h)

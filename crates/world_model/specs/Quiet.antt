-- Steps that aren't events on an inode: a post or a wait, an appended rule, or nothing.
use Rattle.std.specs.Prelude.{◌≡◌, List, [], ◌∷◌, Option, Some}
use mathlib.Core.List.{IsPrefix}
use Rattle.call_steps.specs.CallState.{Step}
use Rattle.call_steps.specs.CallState.{Nothing, Signals, Appends}
use Rattle.world_model.specs.laws_of_runs.Checks.{IsPlainStep, seen_by}
use Rattle.run_model.specs.History.{Answer, rule_in, signal_in, step_at, who_at}
use Rattle.run_model.specs.Scene.{Program}
use Rattle.world_model.specs.WorldConsts.{WorldConsts, scene_of}
use Rattle.world_model.specs.Tasks.{HasPlayed, PassesValue, Tasked}
use Rattle.world_model.specs.Plays.{HasResumed, task_after, task_left}
use Rattle.world_model.specs.Steps.{Adds}
use Rattle.world_model.specs.task_states.Value.{TaskValue}

abbrev pub IsQuiet : Option Step → Type 0
IsQuiet (Some Nothing) = Unit {0}
IsQuiet (Some (Signals d)) = Unit {0}
IsQuiet (Some (Appends rule)) = Unit {0}
IsQuiet _ = ⊥

-- the task's passes after a quiet step
pub record QuietPasses (consts : WorldConsts) (t : Tasked) (passes : PassesValue) (a : Answer)
    : Type 0 where
  pub inodes : passes.inodes ≡ t.passes.inodes
  pub book : passes.book ≡ t.passes.book
  pub sems : Adds t.passes.sems passes.sems
      (signal_in (who_at t.number t.task_state.program t.task_state.position.call_state)
      (step_at t.task_state.program t.task_state.position.call_state) a)
  pub rules : Adds t.passes.rules passes.rules
      (rule_in (who_at t.number t.task_state.program t.task_state.position.call_state)
      (step_at t.task_state.program t.task_state.position.call_state) a)
  pub rules_seen : IsPrefix t.passes.rules.seen passes.rules.seen
  pub plain : (programs : List Program) → IsPlainStep (scene_of consts programs)
      (seen_by passes.inodes passes.rules)
      (step_at t.task_state.program t.task_state.position.call_state) a

abbrev pub QuietIsPlayed : Type 0
QuietIsPlayed = (consts : WorldConsts) (t : Tasked) (h : List Answer) (a : Answer)
    (passes : PassesValue) (task_state : TaskValue) → HasPlayed consts t h
    → IsQuiet (step_at t.task_state.program t.task_state.position.call_state)
    → QuietPasses consts t passes a → HasResumed consts t a task_state
    → HasPlayed consts (task_after t task_state passes t.hash_state) (a ∷ h)

-- the task's passes after a quiet step that was blocked or ran out of memory: they may have seen
-- more
pub record QuietLeft (t : Tasked) (passes : PassesValue) : Type 0 where
  pub inodes : passes.inodes ≡ t.passes.inodes
  pub book : passes.book ≡ t.passes.book
  pub sems : Adds t.passes.sems passes.sems []
  pub rules : passes.rules ≡ t.passes.rules

abbrev pub QuietIsLeft : Type 0
QuietIsLeft = (consts : WorldConsts) (t : Tasked) (h : List Answer) (passes : PassesValue)
    → HasPlayed consts t h → QuietLeft t passes
    → HasPlayed consts (task_left t passes t.hash_state) h

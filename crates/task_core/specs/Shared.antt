-- The effect of a step on a task, in a world that threads share.
use Rattle.std.specs.Prelude.{◌≡◌, ℕ, ◌+◌, Option, Some, None, Result, Ok, slice_get}
use Rattle.call_steps.specs.CallState.{Step}
use Rattle.call_steps.specs.CallState.{Checks, Does, Signals}
use Rattle.grow_list.specs.Shown.{Passed}
use Rattle.inode_events.specs.Asked.{outcome}
use Rattle.inode_events.specs.NewestFirst.{newest_first}
use Rattle.inode_events.specs.Semaphores.{semaphore_says}
use Rattle.inode_events.specs.declared.deed.Deed.{Deed}
use Rattle.inode_events.specs.declared.told.Event.{Event}
use Rattle.run_model.specs.History.{step_at}
use Rattle.run_model.specs.Turns.{State}
use Rattle.run_model.specs.declared.turn.Turn.{Turn}
use Rattle.world_model.specs.WorldConsts.{InodeConsts, WorldConsts, inode_in}
use Rattle.world_model.specs.Tasks.{PassesValue, Tasked}
use Rattle.world_model.specs.declared.hash_state.HashState.{HashState}
use Rattle.world_locks.specs.worlds.Ready.{HasLooked}
use Rattle.world_locks.specs.acts.Turning.{Goes, TurnsTo, turned_to}
use Rattle.world_locks.specs.acts.declared.answers.TurnResult.{TurnResult}
use Rattle.world_locks.specs.acts.declared.answers.TurnResult.TheVariants as turn_result
use Rattle.world_locks.specs.Met.{mines_of, state_seen}

-- the turn had no answer
abbrev pub IsIdle : {E : Type 0} → Result TurnResult E → Type 0
IsIdle (Ok (turn_result.Told a)) = ⊥
IsIdle _ = Unit {0}

-- The deed on this inode is blocked: the task's pass, as it was before the call, has looked at the
-- journal that it has seen now, and by this journal the deed has no outcome.
pub record IsBlockedOn (consts : WorldConsts) (n i : ℕ) (s : InodeConsts) (d : Deed)
    (passes passes2 : PassesValue) : Type 0 where
  pub pass : Passed Event
  pub pass_at : slice_get passes.inodes i ≡ Some pass
  pub pass2 : Passed Event
  pub pass2_at : slice_get passes2.inodes i ≡ Some pass2
  pub looked : HasLooked (inode_in consts s) (n + 1) pass.seen pass2.seen pass.mine
  pub told : outcome (inode_in consts s) passes2.book.seen d (newest_first pass2.seen) ≡ None

-- What blocks the step of task n, by what its passes have seen now: the journal of the deed's
-- inode, or the count of the semaphore. A check is blocked only on an inode that doesn't exist, and
-- no other step is ever blocked.
abbrev pub IsBlockedBy : WorldConsts → ℕ → PassesValue → PassesValue → Option Step → Type 0
IsBlockedBy consts n passes passes2 (Some (Does i d)) =
    (s : InodeConsts) → slice_get consts.each_inode i ≡ Some s
    → IsBlockedOn consts n i s d passes passes2
IsBlockedBy consts n passes passes2 (Some (Checks i file func mask)) =
    slice_get consts.each_inode i ≡ None
IsBlockedBy consts n passes passes2 (Some (Signals d)) =
    semaphore_says (newest_first passes2.sems.seen) d ≡ None
IsBlockedBy consts n passes passes2 _ = ⊥

-- the turn met some lists, and the passes have seen these lists as the turn left them
pub record TurnsToMet {E : Type 0} (consts : WorldConsts) (t : Tasked) (passes : PassesValue)
    (g : HashState) (r : Result TurnResult E) : Type 0 where
  pub old : State
  pub reaches : TurnsTo consts t old (state_seen passes) passes g r
  pub idle : IsIdle r → mines_of passes ≡ mines_of t.passes
  pub blocked : r ≡ Ok turn_result.Blocked → IsBlockedBy consts t.number t.passes passes
      (step_at t.task_state.program t.task_state.position.call_state)

-- the task made its turn on some lists, and its passes have seen these lists as the turn left them
pub record StepsTo (consts : WorldConsts) (t t2 : Tasked) (r : Turn) : Type 0 where
  pub old : State
  pub goes : Goes consts t old (turned_to (state_seen t2.passes) t2.task_state.position r)

-- The effect of a step under locks: it met some lists, and after it the passes of its task have
-- seen these lists as the step left them.
use Rattle.std.specs.Prelude.{◌≡◌, ℕ, length, List, map, IfOk, Option, Result, slice_get, slice_set}
use Rattle.grow_list.specs.Shown.{Passed}
use Rattle.ima_templates.specs.declared.entry.Entry.{Entry}
use Rattle.inode_meta.specs.declared.identity.Cred.{Cred}
use Rattle.inode_meta.specs.declared.step.Who.{Who}
use Rattle.inode_events.specs.NewestFirst.{newest_first}
use Rattle.inode_events.specs.Semaphores.{semaphore_says}
use Rattle.inode_events.specs.declared.deed.Deed.{Deed}
use Rattle.inode_events.specs.declared.told.Event.{Event}
use Rattle.inode_events.specs.declared.told.Told.TheVariants as told
use Rattle.policy_cell.specs.declared.cell.RuleEntry.{RuleEntry}
use Rattle.run_model.specs.Turns.{State}
use Rattle.task_steps.specs.declared.listed.Checks.{Checks}
use Rattle.world_close.specs.worlds.WorldConsts.{WorldConsts}
use Rattle.world_close.specs.worlds.Tasks.{PassesValue}
use Rattle.world_close.specs.worlds.declared.hash_state.HashState.{HashState}
use Rattle.task_steps.specs.Acting.{EventIn, IsPlacedAt, IsSaid, told_in, told_of}
use Rattle.task_steps.specs.Checking.{CheckIn}
use Rattle.task_steps.specs.Sharing.{AppendsTo, SignalsOn}
use Rattle.task_steps.specs.declared.answers.StepResult.{StepResult}
use Rattle.std.specs.Prelude.{None}

abbrev pub seen_of : Passed Event → List Event
seen_of q = q.seen

-- the lists of a world as the passes of a task have seen them
abbrev pub state_seen : PassesValue → State
state_seen passes = record {
  journals = map seen_of passes.inodes;
  list = passes.book.seen;
  signals = passes.sems.seen;
  added = passes.rules.seen;
}

abbrev pub mine_of : Passed Event → List (ℕ × Event)
mine_of q = q.mine

-- a task's own entries of each list
pub record Mines : Type 0 where
  pub journals : List (List (ℕ × Event))
  pub list : List (ℕ × Entry)
  pub signals : List (ℕ × Event)
  pub added : List (ℕ × RuleEntry)

abbrev pub mines_of : PassesValue → Mines
mines_of passes = record {
  journals = map mine_of passes.inodes;
  list = passes.book.mine;
  signals = passes.sems.mine;
  added = passes.rules.mine;
}

-- The lists that a step on an inode met. The others are as the task has last seen them.
abbrev pub state_met : PassesValue → ℕ → List Event → List Entry → List RuleEntry → State
state_met passes i journal list added = record {
  journals = slice_set (map seen_of passes.inodes) i journal;
  list = list;
  signals = passes.sems.seen;
  added = added;
}

-- a deed on the inode of this number met these lists
pub record EventMet {E : Type 0} (consts : WorldConsts) (i : ℕ) (who : Who) (d : Deed)
    (passes passes2 : PassesValue) (g g2 : HashState) (r : Result (Option StepResult) E)
    : Type 0 where
  pub old : State
  pub event : EventIn consts i (slice_get consts.each_inode i) who d old (state_seen passes2) passes
      passes2 g g2 (told_in r)
  pub told : IfOk r (λ o. IsSaid consts i d old o)

-- a check of the inode of this number met these lists
pub record CheckMet {E : Type 0} (consts : WorldConsts) (i : ℕ) (who : Who) (cred : Cred)
    (asked : Checks) (passes passes2 : PassesValue) (r : Result (Option StepResult) E)
    : Type 0 where
  pub old : State
  pub check : (g : HashState) → CheckIn consts i (slice_get consts.each_inode i) who cred asked old
      (state_seen passes2) passes passes2 g r

-- a post or a wait met these lists
pub record SignalsMet {E : Type 0} (passes passes2 : PassesValue) (who : Who) (d : Deed)
    (r : Result (Option StepResult) E) : Type 0 where
  pub old : State
  pub signals : SignalsOn old (state_seen passes2) passes passes2 who d (told_in r)
  pub told : IfOk r (λ o. (told_of o ≡ semaphore_says (newest_first old.signals) d)
      × IsPlacedAt (length old.signals) o)

-- an appended rule met these lists
pub record AppendsMet (passes passes2 : PassesValue) (entry : RuleEntry) (a : StepResult)
    : Type 0 where
  pub old : State
  pub appends : AppendsTo old (state_seen passes2) passes passes2 entry
  pub told : (a.place ≡ length old.added) × (a.told ≡ told.Done) × (a.action ≡ None)

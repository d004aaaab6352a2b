-- How posts, waits and appended rules change a world's lists and the task's passes.
use Rattle.std.specs.Prelude.{◌≡◌, [], ◌∷◌, ◌++◌, length, Option}
use mathlib.Core.List.{IsPrefix}
use Rattle.inode_meta.specs.declared.step.Who.{Who}
use Rattle.inode_events.specs.Asked.{entered, made}
use Rattle.inode_events.specs.declared.deed.Deed.{Deed}
use Rattle.inode_events.specs.declared.told.Told.{Told}
use Rattle.policy_cell.specs.declared.cell.RuleEntry.{RuleEntry}
use Rattle.run_model.specs.Turns.{State}
use Rattle.task_steps.specs.worlds.Tasks.{PassesValue}
use Rattle.task_steps.specs.worlds.Steps.{Adds}

-- a post or a wait, with this outcome: None if it was blocked or ran out of memory
pub record SignalsOn (old new : State) (passes passes2 : PassesValue) (who : Who) (d : Deed)
    (o : Option Told) : Type 0 where
  pub state : new ≡ record old { signals = old.signals ++ made who d o }
  pub sems : Adds passes.sems passes2.sems (entered (length old.signals) who d o)
  pub others : passes2 ≡ record passes { sems = passes2.sems }

-- an appended rule
pub record AppendsTo (old new : State) (passes passes2 : PassesValue) (entry : RuleEntry)
    : Type 0 where
  pub state : new ≡ record old { added = old.added ++ entry ∷ [] }
  pub rules : Adds passes.rules passes2.rules ((length old.added, entry) ∷ [])
  pub before : IsPrefix passes.rules.seen old.added
  pub seen : passes2.rules.seen ≡ new.added
  pub others : passes2 ≡ record passes { rules = passes2.rules }

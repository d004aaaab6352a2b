-- How a check changes one inode of a world.
use Rattle.std.specs.Prelude.{◌≡◌, ℕ, [], length, List, Option, Some, None, Result, Ok, Err, slice_get}
use Rattle.ima_templates.specs.declared.entry.Entry.{Entry}
use Rattle.inode_events.specs.Asked.{outcome}
use Rattle.inode_events.specs.Inode.{Inode}
use Rattle.inode_events.specs.NewestFirst.{newest_first}
use Rattle.inode_events.specs.State.{metadata}
use Rattle.inode_events.specs.declared.deed.Deed.{Deed}
use Rattle.inode_events.specs.declared.deed.Deed.TheVariants as deed
use Rattle.inode_events.specs.declared.told.Event.{Event}
use Rattle.inode_events.specs.declared.told.Told.{Told}
use Rattle.inode_meta.specs.declared.identity.Cred.{Cred}
use Rattle.inode_meta.specs.declared.identity.Meta.{Meta}
use Rattle.inode_meta.specs.declared.step.Who.{Who}
use Rattle.policy_rules.specs.ActionValue.{ActionValue}
use Rattle.policy_rules.specs.RuleValue.{RuleValue}
use Rattle.policy_rules.specs.declared.access.Super.{Super}
use Rattle.run_model.specs.Scene.{decided, rules_with}
use Rattle.run_model.specs.Turns.{State}
use Rattle.task_steps.specs.declared.listed.Checks.{Checks}
use Rattle.task_steps.specs.worlds.WorldConsts.{InodeConsts, WorldConsts, inode_in, scene_of, super_at}
use Rattle.task_steps.specs.worlds.Tasks.{PassesValue}
use Rattle.task_steps.specs.worlds.declared.hash_state.HashState.{HashState}
use Rattle.task_steps.specs.worlds.Events.{EventOn}
use Rattle.task_steps.specs.Acting.{NoEvent, told_in}
use Rattle.task_steps.specs.declared.answers.StepResult.{StepResult}

-- the check as a deed, with the action that these rules decide
abbrev pub check_by : List RuleValue → Cred → Super → Meta → Checks → Deed
check_by rules cred place meta asked =
    deed.Check asked.file asked.func (decided rules cred place meta asked.func asked.mask)
    (length rules)

-- the answer to a check with this outcome and action, whose event is at this place
abbrev pub checked_in : {E : Type 0} → ℕ → Result (Told × ActionValue) E
    → Result (Option StepResult) E
checked_in place (Ok r) =
    Ok (Some (record { place = place; told = r.0; action = Some r.1 }))
checked_in place (Err e) = Err e

-- the answer's place is the end of the journal, and its action is the one of these rules
pub record IsCheckedBy (inode : Inode) (journal : List Event) (list : List Entry)
    (rules : List RuleValue) (cred : Cred) (place : Super) (asked : Checks) (a : StepResult)
    : Type 0 where
  pub place_is : a.place ≡ length journal
  pub action : a.action
      ≡ Some (decided rules cred place (metadata (newest_first journal)) asked.func asked.mask)
  pub told : Some a.told ≡ outcome inode list
      (check_by rules cred place (metadata (newest_first journal)) asked) (newest_first journal)

-- the answer to a check, which is never blocked
abbrev pub IsChecked : {E : Type 0} → Inode → List Event → List Entry → List RuleValue → Cred
    → Super → Checks → Result (Option StepResult) E → Type 0
IsChecked inode journal list rules cred place asked (Ok (Some a)) =
    IsCheckedBy inode journal list rules cred place asked a
IsChecked inode journal list rules cred place asked (Ok None) = ⊥
IsChecked inode journal list rules cred place asked (Err e) = Unit {0}

-- the check on an inode that is there, by all rules in force, which the task's pass has seen
pub record CheckOn {E : Type 0} (consts : WorldConsts) (i : ℕ) (s : InodeConsts) (who : Who)
    (cred : Cred) (asked : Checks) (old new : State) (passes passes2 : PassesValue) (g : HashState)
    (r : Result (Option StepResult) E) : Type 0 where
  pub journal : List Event
  pub journal_at : slice_get old.journals i ≡ Some journal
  pub event : EventOn consts i s who (check_by (rules_with (scene_of consts []) old.added) cred
      (super_at consts s.place) (metadata (newest_first journal)) asked) old new passes passes2 g g
      (told_in r)
  pub seen : passes2.rules.seen ≡ old.added
  pub told : IsChecked (inode_in consts s) journal old.list
      (rules_with (scene_of consts []) old.added) cred (super_at consts s.place) asked r

abbrev pub CheckIn : {E : Type 0} → WorldConsts → ℕ → Option InodeConsts → Who → Cred → Checks
    → State → State → PassesValue → PassesValue → HashState → Result (Option StepResult) E → Type 0
CheckIn consts i None who cred asked old new passes passes2 g r =
    NoEvent old new passes passes2 g g (told_in r)
CheckIn consts i (Some s) who cred asked old new passes passes2 g r =
    CheckOn consts i s who cred asked old new passes passes2 g r

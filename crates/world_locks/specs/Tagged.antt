-- The values under locks as contracts see them, and their invariants with the constants.
use Rattle.std.specs.Prelude.{◌≡◌, ℕ, ◌+◌, ◌∷◌, ◌++◌, [], length, List, Option, Some, IfOk, Result, Ok, Err, slice_get}
use mathlib.Core.List.{IsPrefix}
use Rattle.grow_list.specs.Shown.{Grown, Passed}
use Rattle.ima_templates.specs.declared.entry.Entry.{Entry}
use Rattle.inode_meta.specs.declared.appraisal.Slot.{Slot}
use Rattle.inode_meta.specs.declared.identity.Cred.{Cred}
use Rattle.inode_meta.specs.declared.step.Who.{Who}
use Rattle.inode_events.specs.Asked.{entered, made, outcome}
use Rattle.inode_events.specs.NewestFirst.{newest_first}
use Rattle.inode_events.specs.Semaphores.{semaphore_says}
use Rattle.inode_events.specs.State.{metadata}
use Rattle.inode_events.specs.declared.deed.Deed.{Deed}
use Rattle.inode_events.specs.declared.told.Event.{Event}
use Rattle.inode_events.specs.declared.told.Told.TheVariants as told
use Rattle.policy_cell.specs.Policy.{PolicyValue}
use Rattle.policy_cell.specs.declared.cell.RuleEntry.{RuleEntry}
use Rattle.policy_rules.specs.ActionValue.{ActionValue}
use Rattle.run_model.specs.Scene.{rules_with}
use Rattle.task_steps.specs.declared.listed.Checks.{Checks}
use Rattle.world_close.specs.worlds.WorldConsts.{InodeConsts, WorldConsts, inode_in, scene_of, super_at}
use Rattle.world_close.specs.worlds.World.{AreRulesOf, IsWorldInode, WorldInodeValue}
use Rattle.world_close.specs.worlds.declared.hash_state.HashState.{HashState}
use Rattle.task_steps.specs.worlds.Ready.{HasLooked, IsReady}
use Rattle.task_steps.specs.worlds.Steps.{Adds}
use Rattle.world_close.specs.Closed.{AreSpares}
use Rattle.task_steps.specs.Acting.{IsPlacedAt, WorldInodeDid, told_in, told_of}
use Rattle.task_steps.specs.Checking.{IsChecked, check_by}
use Rattle.task_steps.specs.declared.answers.StepResult.{StepResult}
use Rattle.std.specs.Prelude.{None}

-- an inode under its lock, with its number
pub record NumberedWorldInode : Type 0 where
  pub number : ℕ
  pub world_inode : WorldInodeValue

-- the rules and their spare passes, which belong to no task and no inode
pub record RulesKeep (consts : WorldConsts) (p : PolicyValue) (nobodys : List (Passed RuleEntry))
    : Type 0 where
  pub rules : AreRulesOf consts p
  pub spares : AreSpares consts nobodys

-- ---- an inode

-- the task's pass of the journal of the inode of this number
abbrev pub IsPassAt : WorldConsts → ℕ → ℕ → Passed Event → Type 0
IsPassAt consts i task pass =
    (s : InodeConsts) → slice_get consts.each_inode i ≡ Some s
    → (pass.name ≡ s.journal) × (pass.number ≡ task + 1)

-- after a look by this pass the deed is ready
abbrev pub IsReadyBy : WorldConsts → ℕ → ℕ → Passed Event → HashState → ActionValue → Slot → Deed
    → Type 0
IsReadyBy consts i task pass g action slot d =
    (s : InodeConsts) (list : List Event) → slice_get consts.each_inode i ≡ Some s
    → HasLooked (inode_in consts s) (task + 1) pass.seen list pass.mine
    → IsReady (inode_in consts s) (task + 1) list g action slot d

-- the deed met an inode of this number and a measurement list, and left these others
pub record DeedMet {E : Type 0} (consts : WorldConsts) (i : ℕ) (pass pass2 : Passed Event)
    (listed listed2 : Passed Entry) (who : Who) (d : Deed) (g g2 : HashState)
    (r : Result (Option StepResult) E) : Type 0 where
  pub world_inode : WorldInodeValue
  pub world_inode2 : WorldInodeValue
  pub book : Grown Entry
  pub book2 : Grown Entry
  pub is : IsWorldInode consts i world_inode
  pub did : WorldInodeDid world_inode world_inode2 book book2 pass pass2 listed listed2 who d g g2
      (told_in r)
  pub told : IfOk r (λ o. told_of o
      ≡ outcome world_inode.cell.inode book.list d (newest_first world_inode.cell.list))
  pub place : IfOk r (λ o. IsPlacedAt (length world_inode.cell.list) o)

-- the check met an inode of this number, a measurement list and these appended rules
pub record AskMet {E : Type 0} (consts : WorldConsts) (i : ℕ) (pass pass2 : Passed Event)
    (own own2 : Passed RuleEntry) (listed listed2 : Passed Entry) (who : Who) (cred : Cred)
    (asked : Checks) (r : Result (Option StepResult) E) : Type 0 where
  pub world_inode : WorldInodeValue
  pub world_inode2 : WorldInodeValue
  pub book : Grown Entry
  pub book2 : Grown Entry
  pub added : List RuleEntry
  pub is : IsWorldInode consts i world_inode
  pub did : (g : HashState)
      → WorldInodeDid world_inode world_inode2 book book2 pass pass2 listed listed2 who
      (check_by (rules_with (scene_of consts []) added) cred (super_at consts world_inode.place)
      (metadata (newest_first world_inode.cell.list)) asked) g g (told_in r)
  pub told : IsChecked world_inode.cell.inode world_inode.cell.list book.list
      (rules_with (scene_of consts []) added) cred (super_at consts world_inode.place) asked r
  pub adds : Adds own own2 []
  pub before : IsPrefix own.seen own2.seen
  pub seen : own2.seen ≡ added

-- ---- semaphores and rules

-- the answer to a post or a wait whose event is at this place
abbrev pub signalled_at : Option ℕ → Option StepResult
signalled_at None = None
signalled_at (Some place) = Some (record { place = place; told = told.Done; action = None })

-- the post or wait met this journal of the semaphores
pub record SignalMet {E : Type 0} (pass pass2 : Passed Event) (who : Who) (d : Deed)
    (r : Result (Option StepResult) E) : Type 0 where
  pub journal : List Event
  pub seen : pass2.seen ≡ journal ++ made who d (told_in r)
  pub adds : Adds pass pass2 (entered (length journal) who d (told_in r))
  pub told : IfOk r (λ o. (told_of o ≡ semaphore_says (newest_first journal) d)
      × IsPlacedAt (length journal) o)

-- the answer to a rule that was to be appended at this place
abbrev pub appended_in : {A E : Type 0} → ℕ → Result A E → Result StepResult E
appended_in place (Ok a) = Ok (record { place = place; told = told.Done; action = None })
appended_in place (Err e) = Err e

-- the rule was appended after these
pub record AppendMet (pass pass2 : Passed RuleEntry) (entry : RuleEntry) (a : StepResult)
    : Type 0 where
  pub added : List RuleEntry
  pub before : IsPrefix pass.seen added
  pub seen : pass2.seen ≡ added ++ entry ∷ []
  pub adds : Adds pass pass2 ((length added, entry) ∷ [])
  pub told : (a.place ≡ length added) × (a.told ≡ told.Done) × (a.action ≡ None)

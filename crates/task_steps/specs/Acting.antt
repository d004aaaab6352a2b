-- How a deed changes one inode of a world, the measurement list and the task's passes.
use Rattle.std.specs.Prelude.{◌≡◌, ℕ, ◌+◌, [], length, List, Option, Some, None, Result, Ok, Err, option_map, slice_get}
use mathlib.Core.List.{IsPrefix}
use Rattle.grow_list.specs.Shown.{Grown, Passed}
use Rattle.ima_templates.specs.declared.entry.Entry.{Entry}
use Rattle.inode_meta.specs.declared.appraisal.Slot.{Slot}
use Rattle.inode_meta.specs.declared.step.Who.{Who}
use Rattle.inode_events.specs.Asked.{outcome}
use Rattle.inode_events.specs.NewestFirst.{newest_first}
use Rattle.inode_events.specs.declared.deed.Deed.{Deed}
use Rattle.inode_events.specs.declared.told.Event.{Event}
use Rattle.inode_events.specs.declared.told.Told.{Told}
use Rattle.policy_rules.specs.ActionValue.{ActionValue}
use Rattle.run_model.specs.Turns.{State}
use Rattle.task_steps.specs.declared.answers.StepResult.{StepResult}
use Rattle.task_steps.specs.Leaving.{Leaves}
use Rattle.task_steps.specs.worlds.WorldConsts.{InodeConsts, WorldConsts, inode_in}
use Rattle.task_steps.specs.worlds.World.{WorldInodeValue}
use Rattle.task_steps.specs.worlds.declared.hash_state.HashState.{HashState}
use Rattle.task_steps.specs.worlds.Tasks.{PassesValue}
use Rattle.task_steps.specs.worlds.Due.{HashesTold}
use Rattle.task_steps.specs.worlds.Events.{EventOn}
use Rattle.task_steps.specs.worlds.Ready.{HasLooked, IsReady}
use Rattle.task_steps.specs.worlds.Steps.{Adds}

-- the outcome of the step, if it was answered
abbrev pub told_of : Option StepResult → Option Told
told_of o = option_map (λ (a : StepResult). a.told) o

abbrev pub told_in : {E : Type 0} → Result (Option StepResult) E → Option Told
told_in (Ok o) = told_of o
told_in (Err e) = None

-- the answer to a deed with this outcome, whose event is at this place
abbrev pub step_result_in : {E : Type 0} → ℕ → Result (Option Told) E → Result (Option StepResult) E
step_result_in place (Ok (Some t)) = Ok (Some (record { place = place; told = t; action = None }))
step_result_in place (Ok None) = Ok None
step_result_in place (Err e) = Err e

-- the answer gives this place and no action
abbrev pub IsPlacedAt : ℕ → Option StepResult → Type 0
IsPlacedAt place None = Unit {0}
IsPlacedAt place (Some a) = (a.place ≡ place) × (a.action ≡ None)

-- the deed on this inode, with this outcome
pub record WorldInodeDid (s s2 : WorldInodeValue) (book book2 : Grown Entry)
    (pass pass2 : Passed Event)
    (listed listed2 : Passed Entry) (who : Who) (d : Deed) (g g2 : HashState) (o : Option Told)
    : Type 0 where
  pub looked : HasLooked s.cell.inode pass.number pass.seen s.cell.list pass.mine
  pub leaves : Leaves s.cell s2.cell book.list book2.list pass pass2 who d o
  pub rules : s2.rules ≡ s.rules
  pub place : s2.place ≡ s.place
  pub book_name : book2.name ≡ book.name
  pub book_callers : book2.callers ≡ book.callers
  pub book_pass : Adds listed listed2 []
  pub before : IsPrefix listed.seen book.list
  pub seen : listed2.seen ≡ book2.list
  pub hashes : HashesTold s.cell.inode s2.cell.list g g2 d o

-- the deed on this inode, with this outcome; it didn't consult the measurement list
pub record WorldInodeDidAlone (s s2 : WorldInodeValue) (pass pass2 : Passed Event) (who : Who)
    (d : Deed) (g g2 : HashState) (o : Option Told) : Type 0 where
  pub looked : HasLooked s.cell.inode pass.number pass.seen s.cell.list pass.mine
  pub leaves : (list : List Entry) → Leaves s.cell s2.cell list list pass pass2 who d o
  pub rules : s2.rules ≡ s.rules
  pub place : s2.place ≡ s.place
  pub hashes : HashesTold s.cell.inode s2.cell.list g g2 d o

-- after a look the deed on the inode of this number is ready
abbrev pub ReadyAt : WorldConsts → ℕ → List (Passed Event) → ℕ → HashState → ActionValue → Slot
    → Deed → Type 0
ReadyAt consts i passes task g action slot d =
    (s : InodeConsts) (q : Passed Event) (list : List Event)
    → slice_get consts.each_inode i ≡ Some s → slice_get passes i ≡ Some q
    → HasLooked (inode_in consts s) (task + 1) q.seen list q.mine
    → IsReady (inode_in consts s) (task + 1) list g action slot d

-- nothing was done
pub record NoEvent (old new : State) (passes passes2 : PassesValue) (g g2 : HashState)
    (o : Option Told) : Type 0 where
  pub state : new ≡ old
  pub left : passes2 ≡ passes
  pub hash_state : g2 ≡ g
  pub told : o ≡ None

-- the deed on the inode of this number; if there is none, which no script names, it is blocked
abbrev pub EventIn : WorldConsts → ℕ → Option InodeConsts → Who → Deed → State → State → PassesValue
    → PassesValue → HashState → HashState → Option Told → Type 0
EventIn consts i None who d old new passes passes2 g g2 o = NoEvent old new passes passes2 g g2 o
EventIn consts i (Some s) who d old new passes passes2 g g2 o =
    EventOn consts i s who d old new passes passes2 g g2 o

-- the answer's outcome is the deed's, and its place is the end of the journal
abbrev pub IsSaid : WorldConsts → ℕ → Deed → State → Option StepResult → Type 0
IsSaid consts i d old o =
    (s : InodeConsts) (journal : List Event) → slice_get consts.each_inode i ≡ Some s
    → slice_get old.journals i ≡ Some journal
    → (told_of o ≡ outcome (inode_in consts s) old.list d (newest_first journal))
    × IsPlacedAt (length journal) o

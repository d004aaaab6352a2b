-- The lists after a deed, whatever its outcome: if it was blocked or ran out of memory they are
-- unchanged.
use Rattle.std.specs.Prelude.{◌≡◌, ◌++◌, List, length, Option, Some, None, Result, Ok, Err}
use Rattle.grow_list.specs.Shown.{Passed}
use Rattle.ima_templates.specs.declared.entry.Entry.{Entry}
use Rattle.world_model.specs.inodes.Value.{CellValue, IsSameCell}
use Rattle.inode_events.specs.Asked.{asked, entered, list_after, made}
use Rattle.inode_events.specs.NewestFirst.{newest_first}
use Rattle.inode_events.specs.declared.deed.Deed.{Deed}
use Rattle.inode_events.specs.declared.told.Event.{Event}
use Rattle.inode_events.specs.declared.told.Told.{Told}
use Rattle.inode_meta.specs.declared.step.Who.{Who}

-- the outcome of the deed, if there is one
abbrev pub told_in : {E : Type 0} → Result (Option Told) E → Option Told
told_in (Ok o) = o
told_in (Err e) = None

-- the outcome in a richer answer, if there is one
abbrev pub told_by : {A E : Type 0} → (A → Told) → Result A E → Option Told
told_by f (Ok a) = Some (f a)
told_by f (Err e) = None

-- the answer to a deed, by what its call on the inode returned
abbrev pub answer_by : {A E : Type 0} → (A → Option Told) → Result A E → Result (Option Told) E
answer_by f (Ok a) = Ok (f a)
answer_by f (Err e) = Err e

-- journal, measurement list and pass have exactly the entries that a deed with this outcome adds
pub record Leaves (old new : CellValue) (list list2 : List Entry) (pass pass2 : Passed Event)
    (who : Who) (d : Deed) (o : Option Told) : Type 0 where
  pub journal : new.list ≡ old.list ++ made who d o
  pub book : list2 ≡ list_after list (asked old.inode d (newest_first old.list)) o
  pub seen : pass2.seen ≡ new.list
  pub mine : pass2.mine ≡ pass.mine ++ entered (length old.list) who d o
  pub pass_name : pass2.name ≡ pass.name
  pub pass_number : pass2.number ≡ pass.number
  pub same : IsSameCell old new

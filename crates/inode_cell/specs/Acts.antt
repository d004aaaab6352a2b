-- The effect of one step on a cell, on the task's pass and on the measurement list.
use Rattle.std.specs.Prelude.{◌≡◌, ℕ, List, ◌++◌, length, Option, Some, None}
use Rattle.grow_list.specs.Shown.{Passed}
use Rattle.hash_algos.specs.declared.digest.Digest.{Digest}
use Rattle.ima_templates.specs.declared.entry.Entry.{Entry}
use Rattle.ima_templates.specs.declared.entry.Placed.TheVariants.{Added}
use Rattle.inode_meta.specs.declared.step.Who.{Who}
use Rattle.inode_events.specs.Asked.{asked, entered, list_after, made, outcome}
use Rattle.inode_events.specs.Callers.{caller_in}
use Rattle.inode_events.specs.Inode.{Inode}
use Rattle.inode_events.specs.Integrity.{attributes, attributes_after, integrity}
use Rattle.inode_events.specs.Legal.{May}
use Rattle.inode_events.specs.NewestFirst.{newest_first}
use Rattle.inode_events.specs.Says.{says}
use Rattle.inode_events.specs.State.{content, content_after, metadata}
use Rattle.inode_events.specs.declared.deed.Deed.{Deed}
use Rattle.inode_events.specs.declared.told.Event.{Event}
use Rattle.inode_events.specs.declared.told.Told.{Told}
use Rattle.inode_state.specs.Facts.{AreFacts}
use Rattle.inode_state.specs.declared.facts.Facts.{Facts}
use Rattle.inode_state.specs.laws_of_journals.Own.{IsBy}
use Rattle.inode_answers.specs.Changes.{rewritten}
use Rattle.inode_cell.specs.Value.{CellValue, IsSameCell}

-- a step that does the deed `d`: its outcome is the one that the journal and the measurement list
-- before it determine, and journal, pass and list change as the outcome says, and nothing else
-- changes
pub record Acts (old new : CellValue) (list list2 : List Entry) (pass pass2 : Passed Event) (who :
    Who) (d : Deed) (o : Option Told) : Type 0 where
  pub told : o ≡ outcome old.inode list d (newest_first old.list)
  pub journal : new.list ≡ old.list ++ made who d o
  pub book : list2 ≡ list_after list (asked old.inode d (newest_first old.list)) o
  pub seen : pass2.seen ≡ new.list
  pub mine : pass2.mine ≡ pass.mine ++ entered (length old.list) who d o
  pub pass_name : pass2.name ≡ pass.name
  pub pass_number : pass2.number ≡ pass.number
  pub same : IsSameCell old new

-- nothing was done
pub record Stays (old new : CellValue) (pass pass2 : Passed Event) : Type 0 where
  pub journal : new.list ≡ old.list
  pub passed : pass2 ≡ pass
  pub same : IsSameCell old new

-- the pass with this number may do the deed
pub record MayBy (cell : CellValue) (number : ℕ) (d : Deed) : Type 0 where
  pub may : May cell.inode (newest_first cell.list) d
  pub by : IsBy number d (newest_first cell.list)

-- a step that adds nothing to the measurement list and leaves content and attributes
pub record IsPlain (inode : Inode) (p : List Event) (who : Who) (d : Deed) (t : Told) (k : Facts) :
    Type 0 where
  pub may : May inode p d
  pub by : IsBy (caller_in who.task d) d p
  pub quiet : asked inode d p ≡ None
  pub told : says inode p (Added 0) d ≡ Some t
  pub content : content_after d t (content p) ≡ content p
  pub attributes : attributes_after inode d t p (integrity inode p) ≡ attributes inode p
  pub facts : AreFacts inode p (record { who = who; deed = d; told = t }) k

-- a step that adds nothing to the measurement list, leaves the content and rewrites attributes; at
-- a close, `digest` is the one for the label
pub record IsChange (inode : Inode) (p : List Event) (who : Who) (d : Deed) (t : Told) (k : Facts)
    (digest : Option Digest) : Type 0 where
  pub may : May inode p d
  pub by : IsBy (caller_in who.task d) d p
  pub quiet : asked inode d p ≡ None
  pub told : says inode p (Added 0) d ≡ Some t
  pub content : content_after d t (content p) ≡ content p
  pub attributes : attributes_after inode d t p (integrity inode p)
      ≡ rewritten inode.settings.evm d digest (metadata p) (attributes inode p)
  pub facts : AreFacts inode p (record { who = who; deed = d; told = t }) k

-- The laws of merged runs: what tasks know of the places of the measurement list, and how a run's
-- journals and the list come together at its end.
use Rattle.std.specs.Prelude.{◌≡◌, ℕ, ◌<◌, ◌==◌, All, List, [], ◌∷◌, ◌++◌, length, reverse, Some, slice_get, count_by, if◌then◌else◌}
use Rattle.std.specs.List.{AllZip}
use mathlib.Core.List.{IsPrefix}
use Rattle.grow_list.specs.Entries.{has_place}
use Rattle.grow_list.specs.Shown.{Passed}
use Rattle.ima_templates.specs.Same.{IsDistinct}
use Rattle.ima_templates.specs.declared.entry.Entry.{Entry}
use Rattle.inode_meta.specs.declared.appraisal.Mode.{Mode}
use Rattle.inode_meta.specs.declared.step.Who.{Who}
use Rattle.inode_events.specs.Asked.{asked, list_after, outcome}
use Rattle.inode_events.specs.Inode.{Inode}
use Rattle.inode_events.specs.Merged.{IsMerged, Journal}
use Rattle.inode_events.specs.declared.deed.Deed.{Deed}
use Rattle.inode_events.specs.declared.told.Event.{Event}
use Rattle.inode_events.specs.declared.told.Told.{Told}
use Rattle.run_model.specs.History.{Answer, own, position, who_at}
use Rattle.run_model.specs.Scene.{Program, Scene}
use Rattle.run_model.specs.Served.{Run, Served}
use Rattle.run_model.specs.Shown.{journals_of}
use Rattle.journal_laws.specs.Booked.{IsBooked}
use Rattle.run_laws.specs.Logs.{RiseServed, log}
use Rattle.run_laws.specs.Steps.{AreStepped, Made, OrderedBefore, RisesWithin, made_of, own_in}

-- ---- what a task knows

-- after a look of the task's pass of the list, the places of its steps still rise
abbrev pub RisesByLook : Type 0
RisesByLook = (steps : List Made) (seen seen2 : List Entry) → IsPrefix seen seen2
    → RisesWithin steps seen → RisesWithin steps seen2

-- after an event whose outcome the list determines, the places of the task's steps still rise
abbrev pub RisesByEvent : Type 0
RisesByEvent = (steps : List Made) (seen list : List Entry) (inode : Inode) (p : List Event)
    (journal place : ℕ) (who : Who) (d : Deed) (t : Told)
    → IsPrefix seen list → RisesWithin steps seen → outcome inode list d p ≡ Some t
    → RisesWithin (made_of journal place who d t ∷ steps)
    (list_after list (asked inode d p) (Some t))

-- the events of a history in one journal are the task's own there
abbrev pub LogIsOwn : Type 0
LogIsOwn = (mode : Mode) (n : ℕ) (p : Program) (i : ℕ) (h : List Answer)
    → own_in i (log mode n p h) ≡ own mode n p i h

-- the steps of any history are in the order of their calls and step numbers, before the step that
-- is due
abbrev pub LogIsOrdered : Type 0
LogIsOrdered = (mode : Mode) (n : ℕ) (p : Program) (h : List Answer)
    → OrderedBefore (log mode n p h) (who_at n p (position mode p h).call_state)

-- ---- the end

-- What closing the list gives, for all passes except its own: the boot aggregate is first and
-- belongs to none of them, each other place belongs to exactly one, what each pass saw is a prefix
-- of the list, and no entry is the same as an earlier one.
pub record BookClosed (boot : Entry) (list : List Entry) (passes : List (Passed Entry)) : Type
    0 where
  pub first : slice_get list 0 ≡ Some boot
  pub seen : All (λ p. IsPrefix p.seen list) passes
  pub places : (k : ℕ) → k < length list → count_by (λ p. has_place k p.mine) passes ≡
      (if k == 0 then 0 else 1)
  pub distinct : IsDistinct list

-- what closing an inode gives, for its journal and its pass of the list
abbrev pub InodeClosed : Journal → Passed Entry → Type 0
InodeClosed j q = IsBooked j.inode j.events q.seen q.mine

-- closing the inodes from the last to the first gives the same results in reverse order
abbrev pub ClosedTurned : Type 0
ClosedTurned =
    (journals : List Journal) (passes : List (Passed Entry)) → AllZip InodeClosed journals passes
    → AllZip InodeClosed (reverse journals) (reverse passes)

-- Closing the list and all inodes gives a merged run. The passes are those of the inodes and those
-- of the tasks, and the tasks' have no entries.
abbrev pub MergedFromCloses : Type 0
MergedFromCloses = (boot : Entry) (list : List Entry) (journals : List Journal)
    (inodes tasks : List (Passed Entry))
    → BookClosed boot list (inodes ++ tasks) → AllZip InodeClosed journals inodes
    → All (λ q. q.mine ≡ []) tasks
    → AreStepped (length tasks) journals → IsMerged boot list journals

-- A served run is merged if the places rise along the steps of each task.
abbrev pub MergedFromServed : Type 0
MergedFromServed = (scene : Scene) (run : Run) (inodes tasks : List (Passed Entry))
    → BookClosed scene.boot run.list (inodes ++ tasks)
    → AllZip InodeClosed (journals_of scene scene.script_files run.journals) inodes
    → All (λ q. q.mine ≡ []) tasks
    → length tasks ≡ length scene.programs → (s : Served scene run) → RiseServed scene run s
    → IsMerged scene.boot run.list (journals_of scene scene.script_files run.journals)

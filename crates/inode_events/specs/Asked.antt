-- A step on an inode: the entry that it asks the measurement list to add, its outcome given the
-- list's reply, and its effect on the journal and the list.
use Rattle.std.specs.Prelude.{ℕ, Bool, true, List, [], ◌∷◌, Option, Some, None, is_some, if◌then◌else◌}
use Rattle.ima_templates.specs.Same.{add, placed}
use Rattle.ima_templates.specs.declared.entry.Entry.{Entry}
use Rattle.ima_templates.specs.declared.entry.Placed.{Placed}
use Rattle.ima_templates.specs.declared.entry.Placed.TheVariants.{Added}
use Rattle.inode_meta.specs.declared.step.Who.{Who}
use Rattle.inode_events.specs.Checks.{last_check}
use Rattle.inode_events.specs.Files.{is_writing, readers, writers}
use Rattle.inode_events.specs.Inode.{Inode}
use Rattle.inode_events.specs.Integrity.{Digests, collecting}
use Rattle.inode_events.specs.Listing.{granting, measured, violated}
use Rattle.inode_events.specs.Marks.{must_measure}
use Rattle.inode_events.specs.Says.{check_told, says}
use Rattle.inode_events.specs.declared.deed.Deed.{Deed}
use Rattle.inode_events.specs.declared.deed.Deed.TheVariants as deed
use Rattle.inode_events.specs.declared.told.Event.{Event}
use Rattle.inode_events.specs.declared.told.Told.{Told}
use Rattle.inode_events.specs.declared.told.Told.TheVariants as told

-- ---- the entry

-- a check whose outcome isn't quiet gives a violation
abbrev pub violation_in : Inode → Told → Option Entry
violation_in inode (told.OpenWriters place) = Some (violated inode)
violation_in inode (told.ToMToU place) = Some (violated inode)
violation_in inode _ = None

abbrev pub measured_if : Bool → Inode → ℕ → Option Digests → List Event → Option Entry
measured_if true inode file (Some digests) before = Some (measured inode file digests before)
measured_if _ inode file _ before = None

-- the entry that the deed adds unless the list already has it: the violation that a check finds, or
-- the measurement for a grant whose check measures
abbrev pub asked : Inode → Deed → List Event → Option Entry
asked inode (deed.Check file func action rules) before =
    violation_in inode (check_told (is_writing file before) action.measure (readers before)
    (writers before) (must_measure before) 0)
asked inode (deed.Take file) before =
    if is_some (collecting inode before) then None
    else measured_if (last_check file before).action.measure inode file
    (granting inode (deed.Take file) before) before
asked inode (deed.Finish file) before =
    measured_if (last_check file before).action.measure inode file
    (granting inode (deed.Finish file) before) before
asked inode _ before = None

-- ---- the outcome

-- the list's reply for that entry; arbitrary if there is none
abbrev pub placed_for : List Entry → Option Entry → Placed
placed_for list None = Added 0
placed_for list (Some e) = placed list e

-- the only outcome of the next step, by the list and the journal before it; `None` if it is blocked
abbrev pub outcome : Inode → List Entry → Deed → List Event → Option Told
outcome inode list d before = says inode before (placed_for list (asked inode d before)) d

-- ---- the effects of the outcome

-- the events that the step appends to the journal: one, or none if it is blocked
abbrev pub made : Who → Deed → Option Told → List Event
made who d None = []
made who d (Some t) = record { who = who; deed = d; told = t } ∷ []

-- the events that the step appends, each with its index
abbrev pub entered : ℕ → Who → Deed → Option Told → List (ℕ × Event)
entered place who d None = []
entered place who d (Some t) = (place, record { who = who; deed = d; told = t }) ∷ []

-- the list after the step
abbrev pub list_after : List Entry → Option Entry → Option Told → List Entry
list_after list e None = list
list_after list None (Some t) = list
list_after list (Some e) (Some t) = add list e

-- Which event added an entry of the list, and which was the first of a call: tables over the
-- entries and over the calls of a task, filled by one walk over the journals.
use Rattle.std.specs.Prelude.{ℕ, ◌+◌, ◌==◌, List, [], ◌∷◌, slice_get, slice_set, take, Option, Some, None, if◌then◌else◌}
use Rattle.view_journal.specs.reading.Report.{InodeValue}
use Rattle.view_journal.specs.reading.words.declared.event.Deed.{Deed}
use Rattle.view_journal.specs.reading.words.declared.event.Deed.TheVariants as deed
use Rattle.view_journal.specs.reading.words.declared.event.Event.{Event}
use Rattle.view_journal.specs.reading.words.declared.event.Outcome.{Outcome}
use Rattle.view_journal.specs.reading.words.declared.event.Outcome.TheVariants as outcome
use Rattle.view_journal.specs.reading.words.declared.event.Placed.{Placed}
use Rattle.view_journal.specs.reading.words.declared.event.Placed.TheVariants as placed
use Rattle.view_plan.specs.declared.slots.Asked.{Asked}
use Rattle.view_plan.specs.declared.slots.Asked.TheVariants as asked
use Rattle.view_plan.specs.declared.slots.At.{At}

abbrev pub placed_entry : Placed → ℕ → Option ℕ
placed_entry placed.Added entry = Some entry
placed_entry _ entry = None

-- the entry that an event added
abbrev pub added_entry : Outcome → Option ℕ
added_entry (outcome.ToMToU p) = Some p
added_entry (outcome.OpenWriters p) = Some p
added_entry (outcome.Granted g) = placed_entry g.placed g.entry
added_entry _ = None

-- the call of this task that an event belongs to; a birth belongs to none
abbrev pub call_of : ℕ → Event → Deed → Option ℕ
call_of task e deed.Birth = None
call_of task e d = if e.who.task == task then Some e.who.call else None

-- the slot of an event in the table that is asked for
abbrev pub slot : Asked → Event → Option ℕ
slot asked.Entries e = added_entry e.outcome
slot (asked.Calls task) e = call_of task e e.deed

abbrev pub kept : Option (Option At) → List (Option At) → ℕ → At → List (Option At)
kept (Some None) table k at = slice_set table k (Some at)
kept _ table k at = table

-- the table with an event at its slot, unless there is one
abbrev pub put : List (Option At) → Option ℕ → At → List (Option At)
put table None at = table
put table (Some k) at = kept (slice_get table k) table k at

abbrev pub at : ℕ → ℕ → Event → At
at inode place e = record { inode = inode; place = place; line = e.line }

-- the table after these events of an inode, the first of which is at this place
abbrev pub after_events : Asked → List (Option At) → ℕ → ℕ → List Event → List (Option At)
after_events a table inode place [] = table
after_events a table inode place (e ∷ es) =
    after_events a (put table (slot a e) (at inode place e)) inode (place + 1) es

-- a report has fewer inodes, and fewer events of each, since its text is shorter
abbrev pub most : ℕ
most = 4294967296

abbrev pub after_journal : Asked → List (Option At) → ℕ → List Event → List (Option At)
after_journal a table inode journal = after_events a table inode 0 (take most journal)

-- the table after these inodes, the first of which has this number
abbrev pub after_inodes : Asked → List (Option At) → ℕ → List InodeValue → List (Option At)
after_inodes a table inode [] = table
after_inodes a table inode (i ∷ is) =
    after_inodes a (after_journal a table inode i.events) (inode + 1) is

-- the table after the events of these inodes
abbrev pub filled : Asked → List (Option At) → List InodeValue → List (Option At)
filled a table inodes = after_inodes a table 0 (take most inodes)

use Rattle.std.proofs.Common.{◌≡◌, ℕ, Bool, true, false, cond, List, [], Option, None, refl, sym, ◌∙◌, ap}
use Rattle.script_text.specs.events.declared.told.Event.{Event}
use Rattle.script_text.specs.steps.declared.call.Call.{Call}
use Rattle.script_text.specs.steps.templates.declared.entry.Placed.{Placed}
use Rattle.run_laws.specs.kernel_reads.Reads.{is_of_call, placed_by}
use Rattle.kernel_read.specs.Places.{calls_in, cell, named_by, noted, reads}
use Rattle.kernel_read.proofs.Cells.{cell_within, event_left, event_noted, noted_none, shape_set}
use Rattle.kernel_read.proofs.places.note_event.Goals as goal

-- an event without a place names none
none_named : (mine : Bool) (o : Option Placed) → o ≡ None → cond mine o None ≡ None
none_named true o h = h
none_named false o h = refl

-- and leaves the table
unplaced : (tasks : List (List Call)) (rows : List (List (Option Placed))) (i : ℕ) (e : Event)
    → placed_by e.deed e.told ≡ None → (n k : ℕ)
    → cell rows n k ≡ noted (reads tasks n k i) (cell rows n k) (named_by n k e)
unplaced tasks rows i e h n k =
    sym (ap (λ (o : Option Placed). noted (reads tasks n k i) (cell rows n k) o)
    (none_named (is_of_call n k e) (placed_by e.deed e.told) h)
    ∙ noted_none (reads tasks n k i) (cell rows n k))

pub returns-in_default-clause-shape : goal.returns-in_default-clause-shape
returns-in_default-clause-shape c = c.requires

pub returns-in_default-clause-cells : goal.returns-in_default-clause-cells
returns-in_default-clause-cells c =
    unplaced (calls_in c.args.tasks.now) c.args.rows.now c.args.inode c.args.event.now
    (sym c.placed_by.ensures ∙ c.in_default.is)

pub bounds-rows-task : goal.bounds-rows-task
bounds-rows-task c = (cell_within (calls_in c.args.tasks.now) c.args.rows.now
    c.args.event.now.who.task c.args.event.now.who.call c.args.inode [] c.requires
    (sym c.is_read.ensures ∙ c.if-is_read.true)).0

pub note-requires : goal.note-requires
note-requires c = (cell_within (calls_in c.args.tasks.now) c.args.rows.now c.args.event.now.who.task
    c.args.event.now.who.call c.args.inode c.index-rows-task.result c.requires
    (sym c.is_read.ensures ∙ c.if-is_read.true)).1

pub returns-then-is_read-clause-shape : goal.returns-then-is_read-clause-shape
returns-then-is_read-clause-shape c =
    shape_set (calls_in c.args.tasks.now) c.args.rows.now c.args.event.now.who.task
    c.args.event.now.who.call c.index-rows-task.result c.note.new.self _ c.requires c.note.ensures

pub returns-then-is_read-clause-cells : goal.returns-then-is_read-clause-cells
returns-then-is_read-clause-cells c =
    event_noted c.args.event.now c.in-Some.placed (sym c.placed_by.ensures ∙ c.in-Some.is)
    (calls_in c.args.tasks.now) c.args.rows.now c.args.inode c.index-rows-task.result
    c.note.new.self c.requires (sym c.is_read.ensures ∙ c.if-is_read.true) c.note.ensures

pub returns-else-is_read-clause-shape : goal.returns-else-is_read-clause-shape
returns-else-is_read-clause-shape c = c.requires

pub returns-else-is_read-clause-cells : goal.returns-else-is_read-clause-cells
returns-else-is_read-clause-cells c =
    event_left c.args.event.now c.in-Some.placed (sym c.placed_by.ensures ∙ c.in-Some.is)
    (calls_in c.args.tasks.now) c.args.rows.now c.args.inode
    (sym c.is_read.ensures ∙ c.if-is_read.false)

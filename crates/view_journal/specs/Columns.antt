-- The columns of the drawn places of a journal.
use Rattle.std.specs.Prelude.{ℕ, ◌+◌, List, [], ◌∷◌, ◌++◌, Option, Some, None, take}
use Rattle.report_read.specs.words.declared.event.Deed.{Deed}
use Rattle.report_read.specs.words.declared.event.Deed.TheVariants as deed
use Rattle.report_read.specs.words.declared.event.Event.{Event}
use Rattle.report_read.specs.words.declared.event.Outcome.{Outcome}
use Rattle.report_read.specs.words.declared.event.Outcome.TheVariants as outcome
use Rattle.view_journal.specs.declared.column.Column.{Column}
use Rattle.view_journal.specs.declared.walk.State.{State}
use Rattle.view_journal.specs.declared.window.Window.{Window}
use Rattle.view_journal.specs.Frame.{column_of}
use Rattle.view_journal.specs.Walk.{states_of}

-- a drawing has at most as many columns
abbrev pub most_columns : ℕ
most_columns = 1000

-- the file whose content is collected after the event
abbrev pub hashing_after : Deed → Outcome → Option ℕ → Option ℕ
hashing_after (deed.Take file) outcome.Begun old = Some file
hashing_after (deed.CloseTake file) outcome.Begun old = Some file
hashing_after (deed.Finish file) o old = None
hashing_after (deed.CloseFinish file) o old = None
hashing_after _ _ old = old

-- the column of an event, if its place is drawn
abbrev pub column_at : Option ℕ → ℕ → Event → State → Option ℕ → List Column
column_at None place e s hashing = []
column_at (Some x) place e s hashing =
    record { place = place; x = x; event = e; state = s; hashing = hashing } ∷ []

-- the columns of these events, after each of which the strips show one of these states
abbrev pub columns_from : List Window → ℕ → Option ℕ → List Event → List State → List Column
columns_from ws place hashing [] ss = []
columns_from ws place hashing (e ∷ es) [] = []
columns_from ws place hashing (e ∷ es) (s ∷ ss) =
    column_at (column_of ws place) place e s (hashing_after e.deed e.outcome hashing)
    ++ columns_from ws (place + 1) (hashing_after e.deed e.outcome hashing) es ss

-- the columns of a journal
abbrev pub columns_of : List Window → List Event → List Column
columns_of ws journal = take most_columns (columns_from ws 0 None journal (states_of journal))

-- The lanes of tasks: which, and where their bars stand.
use Rattle.std.specs.Prelude.{ℕ, suc, ◌+◌, ◌*◌, ◌==◌, nat_lt, max, ◌&&◌, List, [], ◌∷◌, ◌++◌, Option, Some, None, if◌then◌else◌}
use Rattle.view_journal.specs.reading.words.declared.event.Deed.{Deed}
use Rattle.view_journal.specs.reading.words.declared.event.Deed.TheVariants as deed
use Rattle.view_journal.specs.reading.words.declared.event.Event.{Event}
use Rattle.view_journal.specs.declared.bars.Bar.{Bar}
use Rattle.view_journal.specs.declared.column.Column.{Column}
use Rattle.view_lanes.specs.declared.lanes.Lane.{Lane}
use Rattle.view_lanes.specs.declared.lanes.Seat.{Seat}
use Rattle.view_journal.specs.Bars.{lane, own}
use Rattle.view_journal.specs.Frame.{rows}

-- ---- the tasks

-- how many tasks before the first one that isn't below this
abbrev pub first_from : ℕ → List ℕ → ℕ
first_from task [] = 0
first_from task (t ∷ ts) = if nat_lt t task then suc (first_from task ts) else 0

-- the tasks, in order, with one more
abbrev pub with_task : ℕ → List ℕ → List ℕ
with_task task [] = task ∷ []
with_task task (t ∷ ts) =
    if nat_lt t task then t ∷ with_task task ts
    else if t == task then t ∷ ts else task ∷ t ∷ ts

abbrev pub with_actor : Deed → ℕ → List ℕ → List ℕ
with_actor deed.Birth task ts = ts
with_actor d task ts = with_task task ts

abbrev pub tasks_from : List ℕ → List Column → List ℕ
tasks_from ts [] = ts
tasks_from ts (c ∷ cs) = tasks_from (with_actor c.event.deed c.event.who.task ts) cs

-- the tasks of these events, in the order of their numbers
abbrev pub tasks_of : List Column → List ℕ
tasks_of columns = tasks_from [] columns

-- ---- the lanes

-- the height of a bar's row, and the space between lanes
abbrev pub row_height : ℕ
row_height = 22

abbrev pub between : ℕ
between = 8

-- the lanes begin below the strips
abbrev pub lanes_top : ℕ
lanes_top = 68

-- the number of rows, of which a lane has at least one
abbrev pub rows_from_least : ℕ → List ℕ → ℕ
rows_from_least n [] = n
rows_from_least n (r ∷ rs) = rows_from_least (max n (r + 1)) rs

abbrev pub height_of : List ℕ → ℕ
height_of rs = row_height * rows_from_least 1 rs + between

abbrev pub seats_of : ℕ → List Bar → List ℕ → List Seat
seats_of top [] rs = []
seats_of top (b ∷ bs) [] = []
seats_of top (b ∷ bs) (r ∷ rs) =
    record { bar = b; y = top + 4 + row_height * r } ∷ seats_of top bs rs

-- the height of a task's lane, where its bars stand, and the lane
abbrev pub lane_height : ℕ → List Bar → ℕ
lane_height task bars = height_of (rows (lane task bars))

abbrev pub lane_seats : ℕ → ℕ → List Bar → List Seat
lane_seats top task bars = seats_of top (own task bars) (rows (lane task bars))

abbrev pub lane_at : ℕ → ℕ → List Bar → Lane
lane_at top task bars = record {
  task = task;
  top = top;
  row = top + 4;
  height = lane_height task bars;
}

abbrev pub lanes_from : ℕ → List Bar → List ℕ → List Lane
lanes_from top bars [] = []
lanes_from top bars (t ∷ ts) =
    lane_at top t bars ∷ lanes_from (top + lane_height t bars) bars ts

abbrev pub seats_from : ℕ → List Bar → List ℕ → List Seat
seats_from top bars [] = []
seats_from top bars (t ∷ ts) =
    lane_seats top t bars ++ seats_from (top + lane_height t bars) bars ts

abbrev pub bottom_from : ℕ → List Bar → List ℕ → ℕ
bottom_from top bars [] = top
bottom_from top bars (t ∷ ts) = bottom_from (top + lane_height t bars) bars ts

-- ---- where an event stands

-- the file of an event: that of its deed, or the one that it opens
abbrev pub file_of : ℕ → Deed → Option ℕ
file_of place (deed.Count k create) = Some place
file_of place (deed.Check file) = Some file
file_of place (deed.Take file) = Some file
file_of place (deed.Chunk file) = Some file
file_of place (deed.Finish file) = Some file
file_of place (deed.Read file from len) = Some file
file_of place (deed.Write file from len) = Some file
file_of place (deed.Trunc file len) = Some file
file_of place (deed.Close file) = Some file
file_of place (deed.CloseTake file) = Some file
file_of place (deed.CloseChunk file) = Some file
file_of place (deed.CloseFinish file) = Some file
file_of place _ = None

-- the top of the row in which the bar of a file stands
abbrev pub seat_in : ℕ → List Seat → Option ℕ
seat_in file [] = None
seat_in file (s ∷ ss) = if s.bar.file == file then Some s.y else seat_in file ss

abbrev pub seat_of : Option ℕ → List Seat → Option ℕ
seat_of None seats = None
seat_of (Some file) seats = seat_in file seats

-- the same, if the bar is one of the task
abbrev pub own_seat_in : ℕ → ℕ → List Seat → Option ℕ
own_seat_in file task [] = None
own_seat_in file task (s ∷ ss) =
    if s.bar.file == file && s.bar.task == task then Some s.y else own_seat_in file task ss

abbrev pub own_seat : Option ℕ → ℕ → List Seat → Option ℕ
own_seat None task seats = None
own_seat (Some file) task seats = own_seat_in file task seats

-- the top of the first row of a task's lane
abbrev pub top_in : ℕ → List Lane → ℕ
top_in task [] = lanes_top
top_in task (l ∷ ls) = if l.task == task then l.row else top_in task ls

abbrev pub row_or : Option ℕ → ℕ → ℕ
row_or None y = y
row_or (Some y) z = y

-- the birth stands above the lanes
abbrev pub birth_top : ℕ
birth_top = 51

abbrev pub row_by : List Lane → List Seat → ℕ → Deed → ℕ → ℕ
row_by lanes seats place deed.Birth task = birth_top
row_by lanes seats place d task =
    row_or (own_seat (file_of place d) task seats) (top_in task lanes)

-- the top of the row in which an event stands
abbrev pub row_top : List Lane → List Seat → ℕ → Event → ℕ
row_top lanes seats place e = row_by lanes seats place e.deed e.who.task

-- The drawing of a journal, as a list of items.
use Rattle.std.specs.Prelude.{ℕ, ◌+◌, ◌-◌, ◌%◌, ◌==◌, nat_le, nat_lt, max, min, Bool, false, not, ◌&&◌, List, [], ◌∷◌, ◌++◌, length, Option, Some, None, if◌then◌else◌}
use Rattle.std.specs.List.{flat_map, list_any}
use Rattle.view_journal.specs.reading.words.declared.event.Event.{Event}
use Rattle.view_journal.specs.declared.bars.Bar.{Bar}
use Rattle.view_journal.specs.declared.column.Column.{Column}
use Rattle.view_layout.specs.declared.flags.Flag.{Flag}
use Rattle.view_journal.specs.declared.items.Guide.{Guide}
use Rattle.view_journal.specs.declared.items.Guide.TheVariants as guide
use Rattle.view_journal.specs.declared.items.Item.{Item}
use Rattle.view_journal.specs.declared.items.Item.TheVariants as item
use Rattle.view_journal.specs.declared.items.Look.{Look}
use Rattle.view_journal.specs.declared.items.Look.TheVariants as look
use Rattle.view_journal.specs.declared.items.Strip.{Strip}
use Rattle.view_journal.specs.declared.items.Strip.TheVariants as strip
use Rattle.view_journal.specs.declared.kinds.Freshness.{Freshness}
use Rattle.view_journal.specs.declared.kinds.Freshness.TheVariants as fresh
use Rattle.view_lanes.specs.declared.lanes.Lane.{Lane}
use Rattle.view_lanes.specs.declared.lanes.Seat.{Seat}
use Rattle.view_journal.specs.declared.walk.State.{State}
use Rattle.view_journal.specs.declared.window.Window.{Window}
use Rattle.view_journal.specs.Bars.{shown_bars}
use Rattle.view_journal.specs.Columns.{columns_of}
use Rattle.view_layout.specs.Flags.{flag_width, flags_of, guide_of}
use Rattle.view_journal.specs.Frame.{column, margin, middle}
use Rattle.view_lanes.specs.Lanes.{bottom_from, lanes_from, lanes_top, row_top, seat_of, seats_from, tasks_of}
use Rattle.view_journal.specs.Notes.{mark_of}
use Rattle.view_journal.specs.State.{is_write}

-- ---- what stands after the events

-- the right edge of the last column
abbrev pub end_from : ℕ → List Column → ℕ
end_from x [] = x
end_from x (c ∷ cs) = end_from (c.x + column) cs

abbrev pub end_of : List Column → ℕ
end_of columns = end_from margin columns

abbrev pub lane_look : ℕ → Look
lane_look task = if task % 2 == 0 then look.Lane else look.OtherLane

abbrev pub lane_items : ℕ → Lane → List Item
lane_items end l =
    item.Block (lane_look l.task)
    (record { x = margin; y = l.top; width = end - margin; height = l.height })
    ∷ item.LaneName (l.top + 19) l.task ∷ []

-- the column of an event that the other report lacks or tells otherwise
abbrev pub differing_items : List ℕ → ℕ → Column → List Item
differing_items differs bottom c =
    if list_any (λ place. place == c.place) differs
    then item.Block look.Differs
    (record { x = c.x; y = 0; width = column; height = bottom }) ∷ []
    else []

abbrev pub is_place : Option ℕ → ℕ → Bool
is_place None place = false
is_place (Some p) place = p == place

-- the line before the column at which two journals part
abbrev pub parting_items : Option ℕ → ℕ → Column → List Item
parting_items parts bottom c =
    if is_place parts c.place then item.Guide guide.Parting c.x 4 (bottom + 4) ∷ [] else []

-- ---- the strips

abbrev pub fresh_number : Freshness → ℕ
fresh_number fresh.NotHashed = 0
fresh_number fresh.AsHashed = 1
fresh_number fresh.Written = 2

abbrev pub shown_in : Strip → State → ℕ
shown_in strip.Readers s = s.readers
shown_in strip.Writers s = s.writers
shown_in strip.Execs s = s.execs
shown_in strip.Content s = fresh_number s.freshness

-- the right end of the segment of one column
abbrev pub middle_end : ℕ → ℕ
middle_end x = middle x + column

abbrev pub segment : Strip → ℕ → ℕ → ℕ → Item
segment kind from to shown = item.Segment kind from (to - from) shown

-- the segments from one on that begins at `from` and reaches to `to` so far; the last one ends at
-- the edge of its column
abbrev pub segments_from : Strip → ℕ → ℕ → ℕ → List Column → List Item
segments_from kind from to shown [] = segment kind from (to - 15) shown ∷ []
segments_from kind from to shown (c ∷ cs) =
    if shown_in kind c.state == shown && middle c.x == to
    then segments_from kind from (middle_end c.x) shown cs
    else segment kind from to shown
    ∷ segments_from kind (middle c.x) (middle_end c.x) (shown_in kind c.state) cs

-- a strip: its name, and a segment for each run of columns that show the same
abbrev pub strip_items : Strip → List Column → List Item
strip_items kind [] = item.StripName kind ∷ []
strip_items kind (c ∷ cs) =
    item.StripName kind
    ∷ segments_from kind (middle c.x) (middle_end c.x) (shown_in kind c.state) cs

abbrev pub is_executed : Column → Bool
is_executed c = nat_lt 0 c.state.execs

-- the strip of those that execute the file, if there are any at one of the columns
abbrev pub execs_items : List Column → List Item
execs_items columns =
    if list_any is_executed columns then strip_items strip.Execs columns else []

abbrev pub strips_items : List Column → List Item
strips_items columns =
    strip_items strip.Readers columns ++ (strip_items strip.Writers columns
    ++ (execs_items columns ++ strip_items strip.Content columns))

-- ---- the guides

abbrev pub write_items : ℕ → Column → List Item
write_items bottom c =
    if is_write c.event.deed c.event.outcome
    then item.Guide guide.Write (middle c.x) 0 bottom ∷ [] else []

-- the line from a flag to the axis, in the middle of its event's column
abbrev pub guide_by : Option Guide → ℕ → Flag → List Item
guide_by None bottom f = []
guide_by (Some g) bottom f = item.Guide g (middle f.x) f.up bottom ∷ []

abbrev pub guide_items : ℕ → Flag → List Item
guide_items bottom f = guide_by (guide_of f.note) bottom f

-- ---- the bars

-- where the bar of this file begins: in the middle of its count's column, or at the left edge of
-- the first column after it
abbrev pub left_at : ℕ → Column → ℕ
left_at file c = if c.place == file then middle c.x else c.x

abbrev pub left_of : ℕ → List Column → ℕ
left_of file [] = 0
left_of file (c ∷ cs) = if nat_lt c.place file then left_of file cs else left_at file c

-- where a bar ends that is drawn up to this place
abbrev pub right_at : Bool → ℕ → Column → ℕ
right_at still last c = if c.place == last && not still then middle c.x else c.x + column

abbrev pub right_from : ℕ → Bool → ℕ → List Column → ℕ
right_from x still last [] = x
right_from x still last (c ∷ cs) =
    right_from (if nat_le c.place last then right_at still last c else x) still last cs

abbrev pub bar_look : Bar → Look
bar_look b = if b.still then look.StillOpen b.kind else look.Bar b.kind

abbrev pub bar_items : List Column → Seat → List Item
bar_items columns s =
    item.Block (bar_look s.bar) (record {
      x = left_of s.bar.file columns;
      y = s.y + 3;
      width = right_from 0 s.bar.still s.bar.last columns - left_of s.bar.file columns;
      height = 16;
    }) ∷ []

-- the collection that goes on after an event, in the row of its file: up to the middle of the next
-- column, or to the edge of the last one
abbrev pub hashing_at : ℕ → Option ℕ → Column → List Item
hashing_at end None c = []
hashing_at end (Some y) c =
    item.Block look.Hashing (record {
      x = middle c.x;
      y = y + 6;
      width = min (end - middle c.x) column;
      height = 10;
    }) ∷ []

abbrev pub hashing_items : ℕ → List Seat → Column → List Item
hashing_items end seats c = hashing_at end (seat_of c.hashing seats) c

-- ---- the events

-- the mark of an event, in the middle of its column and of its row
abbrev pub mark_at : List Lane → List Seat → Column → Item
mark_at lanes seats c =
    item.Mark c.place (middle c.x) (row_top lanes seats c.place c.event + 11) c.event.line
    (mark_of c.event)

abbrev pub mark_items : List Lane → List Seat → Column → List Item
mark_items lanes seats c = mark_at lanes seats c ∷ []

abbrev pub axis_at : ℕ → Column → Item
axis_at bottom c =
    item.Axis (middle c.x) bottom c.place c.event (mark_of c.event)

abbrev pub axis_items : ℕ → Column → List Item
axis_items bottom c = axis_at bottom c ∷ []

abbrev pub flag_at : Flag → Item
flag_at f = item.Flag (middle f.x) f.up (flag_width f.note) f.event f.note

abbrev pub flag_items : Flag → List Item
flag_items f = flag_at f ∷ []

-- ---- the gaps

abbrev pub gap_between : ℕ → ℕ → ℕ → ℕ → List Item
gap_between bottom next x place =
    if nat_lt next place then item.Gap x bottom (place - next) ∷ [] else []

-- the gaps from x on, of a journal of so many events, the first of which are left of x
abbrev pub gaps_from : ℕ → ℕ → ℕ → ℕ → List Column → List Item
gaps_from bottom events next x [] = gap_between bottom next x events
gaps_from bottom events next x (c ∷ cs) =
    gap_between bottom next x c.place
    ++ gaps_from bottom events (c.place + 1) (c.x + column) cs

abbrev pub gaps_items : ℕ → ℕ → List Column → List Item
gaps_items bottom events columns = gaps_from bottom events 0 margin columns

-- ---- the drawing

-- the parts of which a drawing is made
pub record Sketch : Type 0 where
  pub columns : List Column
  pub flags : List Flag
  pub lanes : List Lane
  pub seats : List Seat
  -- where the axis begins
  pub bottom : ℕ
  pub events : ℕ

abbrev pub back_items : Sketch → List ℕ → Option ℕ → List Item
back_items s differs parts =
    flat_map (lane_items (end_of s.columns)) s.lanes
    ++ (flat_map (differing_items differs s.bottom) s.columns
    ++ flat_map (parting_items parts s.bottom) s.columns)

abbrev pub middle_items : Sketch → List Item
middle_items s =
    strips_items s.columns
    ++ (flat_map (write_items s.bottom) s.columns
    ++ (flat_map (guide_items s.bottom) s.flags
    ++ (flat_map (bar_items s.columns) s.seats
    ++ flat_map (hashing_items (end_of s.columns) s.seats) s.columns)))

abbrev pub front_items : Sketch → List Item
front_items s =
    flat_map (mark_items s.lanes s.seats) s.columns
    ++ (flat_map (axis_items s.bottom) s.columns
    ++ (flat_map flag_items s.flags ++ gaps_items s.bottom s.events s.columns))

-- the drawing, in the order of painting
abbrev pub items_of : Sketch → List ℕ → Option ℕ → List Item
items_of s differs parts = back_items s differs parts ++ (middle_items s ++ front_items s)

abbrev pub sketch_by : List Column → List Bar → ℕ → Sketch
sketch_by columns bars events = record {
  columns = columns;
  flags = flags_of columns;
  lanes = lanes_from lanes_top bars (tasks_of columns);
  seats = seats_from lanes_top bars (tasks_of columns);
  bottom = bottom_from lanes_top bars (tasks_of columns);
  events = events;
}

abbrev pub sketch_of : List Window → List Event → Sketch
sketch_of ws journal =
    sketch_by (columns_of ws journal) (shown_bars ws journal) (length journal)

-- ---- its size

abbrev pub highest_from : ℕ → List Flag → ℕ
highest_from y [] = y
highest_from y (f ∷ fs) = highest_from (max f.up y) fs

-- the height of the flags above the strips
abbrev pub highest : List Flag → ℕ
highest flags = highest_from 0 flags

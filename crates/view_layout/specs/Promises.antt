-- What has to be true of a drawing.
use Rattle.std.specs.Prelude.{◌≡◌, ◌≢◌, ℕ, ◌+◌, ◌≤◌, All, Contains, List}
use Rattle.view_journal.specs.reading.words.declared.event.Deed.TheVariants as read
use Rattle.view_journal.specs.reading.words.declared.event.Event.{Event as Read}
use Rattle.view_journal.specs.declared.bars.Bar.{Bar}
use Rattle.view_journal.specs.declared.column.Column.{Column}
use Rattle.view_lanes.specs.declared.lanes.Lane.{Lane}
use Rattle.view_journal.specs.declared.window.Window.{Window}
use Rattle.view_journal.specs.Columns.{columns_of}
use Rattle.view_layout.specs.Drawing.{Sketch, sketch_by}
use Rattle.view_layout.specs.Flags.{flag_extents, notes_of}
use Rattle.view_journal.specs.Frame.{AreInOrder}
use Rattle.view_lanes.specs.Lanes.{row_height, row_top}
use Rattle.view_journal.specs.Windows.{AreWindows}

-- a row that begins at y is a row of the lane
pub record IsRowOf (l : Lane) (y : ℕ) : Type 0 where
  pub below : l.top ≤ y
  pub above : y + row_height ≤ l.top + l.height

-- a lane of the task has a row that begins at y
pub record HasRow (lanes : List Lane) (task y : ℕ) : Type 0 where
  pub lane : Lane
  pub among : Contains lanes lane
  pub own : lane.task ≡ task
  pub row : IsRowOf lane y

abbrev pub StandsIn : Sketch → Column → Type 0
StandsIn s c = HasRow s.lanes c.event.who.task (row_top s.lanes s.seats c.place c.event)

-- each event but the birth stands in a lane of its task
abbrev pub EventsStandInTheirLanes : Type 0
EventsStandInTheirLanes =
    (columns : List Column) (bars : List Bar) (events : ℕ)
    → All (λ (c : Column). c.event.deed ≢ read.Birth
    → StandsIn (sketch_by columns bars events) c) columns

-- the flags stand in the order of their beginnings
abbrev pub FlagsAreInOrder : Type 0
FlagsAreInOrder =
    (ws : List Window) (journal : List Read) → AreWindows 0 ws
    → AreInOrder (flag_extents (notes_of (columns_of ws journal)))

-- The frame of a page: its head, and the tiles with the numbers of a report.
use Rattle.std.specs.Prelude.{ℕ, nat_lt, not, Bool, true, false, List, [], ◌∷◌, ◌++◌, length, if◌then◌else◌}
use Rattle.view_page.specs.declared.own.Own.TheVariants as own
use Rattle.view_page.specs.declared.pieces.Piece.TheVariants as piece
use Rattle.view_page.specs.journals.reading.Report.{InodeValue, ReportValue, TaskValue}
use Rattle.view_page.specs.journals.reading.lines.declared.report.Reply.{Reply}
use Rattle.view_page.specs.journals.reading.lines.declared.report.RunEnd.{RunEnd}
use Rattle.view_page.specs.journals.reading.lines.declared.report.RunEnd.TheVariants as run
use Rattle.view_plan.specs.Sums.{sum_up_to}
use Rattle.view_page.specs.declared.html.Frame.{Frame}
use Rattle.view_page.specs.declared.html.Frame.TheVariants as frame
use Rattle.view_page.specs.declared.part.Part.{Part}
use Rattle.view_page.specs.declared.part.Part.TheVariants as part

-- what stands before the body's own parts, under this heading
abbrev pub head : Frame → List Part
head heading =
    part.Frame frame.Begin ∷ part.Style ∷ part.Drawn (piece.Own own.Rules)
    ∷ part.Frame frame.Body
    ∷ part.Frame heading ∷ part.Legend ∷ []

-- ---- tiles

abbrev pub tile_by : Bool → Part
tile_by true = part.Frame frame.Hot
tile_by false = part.Frame frame.Tile

-- a tile with a number, which is red if it has to be looked at
abbrev pub tile : Bool → ℕ → Frame → List Part
tile hot n name =
    tile_by hot ∷ part.Frame name ∷ part.Number n ∷ part.Frame frame.TileEnd ∷ []

abbrev pub is_done : RunEnd → Bool
is_done run.Done = true
is_done _ = false

abbrev pub run_word : RunEnd → Frame
run_word run.Done = frame.Done
run_word run.Unfinished = frame.Unfinished
run_word run.Stuck = frame.Stuck

abbrev pub run_tile : RunEnd → List Part
run_tile r =
    tile_by (not (is_done r)) ∷ part.Frame frame.Run ∷ part.Frame (run_word r)
    ∷ part.Frame frame.TileEnd ∷ []

abbrev pub refused_in : ℕ → List Reply → ℕ
refused_in n [] = n
refused_in n (r ∷ rs) = refused_in (sum_up_to n (if r.ok then 0 else 1)) rs

abbrev pub refused_from : ℕ → List TaskValue → ℕ
refused_from n [] = n
refused_from n (t ∷ ts) = refused_from (refused_in n t.replies) ts

-- how many calls were refused
abbrev pub refused : List TaskValue → ℕ
refused tasks = refused_from 0 tasks

abbrev pub events_from : ℕ → List InodeValue → ℕ
events_from n [] = n
events_from n (i ∷ is) = events_from (sum_up_to n (length i.events)) is

-- how many events the journals have
abbrev pub events : List InodeValue → ℕ
events inodes = events_from 0 inodes

abbrev pub counts : ReportValue → List Part
counts r =
    tile false (length r.entries) frame.Entries
    ++ tile (nat_lt 0 r.violations) r.violations frame.Violations
    ++ tile (nat_lt 0 (refused r.tasks)) (refused r.tasks) frame.Refused
    ++ tile false (length r.inodes) frame.Inodes
    ++ tile false (length r.tasks) frame.Tasks
    ++ tile false (events r.inodes) frame.Events

-- the tiles of a report
abbrev pub tiles : ReportValue → List Part
tiles r =
    part.Frame frame.Tiles ∷ [] ++ run_tile r.run
    ++ counts r
    ++ part.Frame frame.TilesEnd ∷ []

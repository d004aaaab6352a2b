-- The page of two reports of one script: the inodes whose journals differ, first above second.
use Rattle.std.specs.Prelude.{ℕ, ◌+◌, ◌-◌, nat_lt, max, min, List, [], ◌∷◌, ◌++◌, length, take, Option, Some, None, if◌then◌else◌}
use Rattle.view_page.specs.declared.view.View.{View}
use Rattle.view_page.specs.declared.own.Side.{Side}
use Rattle.view_page.specs.declared.own.Side.TheVariants as side
use Rattle.view_page.specs.journals.Windows.{windows}
use Rattle.view_page.specs.journals.declared.window.Window.{Window}
use Rattle.view_page.specs.journals.reading.Report.{InodeValue, ReportValue}
use Rattle.view_page.specs.journals.reading.words.declared.event.Event.{Event}
use Rattle.view_page.specs.journals.reading.words.declared.event.Span.{Span}
use Rattle.view_page.specs.journals.reading.lines.declared.report.InodeHead.{InodeHead}
use Rattle.view_sentences.specs.Alike.{differing, parted}
use Rattle.view_tables.specs.Frame.{head, tiles}
use Rattle.view_pages.specs.Page.{tables}
use Rattle.view_page.specs.Parts.{more}
use Rattle.view_plan.specs.Plan.{most_drawn, planned}
use Rattle.view_pages.specs.Section.{at_end, drawing, heading, marked, not_drawn}
use Rattle.view_sentences.specs.Sentences.{sentences}
use Rattle.view_page.specs.declared.html.Frame.TheVariants as frame
use Rattle.view_page.specs.declared.html.Section.TheVariants as section
use Rattle.view_page.specs.declared.part.Part.{Part}
use Rattle.view_page.specs.declared.part.Part.TheVariants as part

-- ---- one side

-- which report the section is of
abbrev pub which : Side → Part
which side.First = part.Section section.IsFirst
which _ = part.Section section.IsSecond

-- the drawing of these windows, with the columns that differ, and the sentences
abbrev pub compared : List ℕ → View → List Event → List Event → List Window → List Part
compared text view mine other ws =
    drawing view mine ws (differing text mine other ws) ++ sentences text view mine ws

abbrev pub compared_by : List ℕ → View → List Event → List Event → List Part
compared_by text view mine other =
    if nat_lt (length mine) 4294967296
    then compared text view mine other (windows most_drawn mine) else not_drawn view.inode

abbrev pub side_by : List ℕ → View → InodeHead → List Span → List Event → List Event → List Part
side_by text view head lines mine other =
    heading text view.inode (length mine) head
    ++ marked mine
    ++ which view.side ∷ part.Section section.Close ∷ []
    ++ compared_by text view mine other
    ++ at_end text head lines

-- the section of an inode of one report, next to this journal of the other one
abbrev pub side_of : List ℕ → View → InodeValue → List Event → List Part
side_of text view i other = side_by text view i.head i.attrs i.events other

-- ---- an inode

-- the view of a side, whose journal parts from the other one at this place
abbrev pub view_at : Side → ℕ → ℕ → View
view_at s number place =
    record { side = s; inode = number; parts = Some (min place 4294967295) }

abbrev pub both : List ℕ → ℕ → ℕ → InodeValue → InodeValue → List Part
both text number place i j =
    side_of text (view_at side.First number place) i j.events
    ++ side_of text (view_at side.Second number place) j i.events

-- one line, if the journals are the same
abbrev pub same : List ℕ → ℕ → ℕ → InodeHead → List Part
same text number events head =
    heading text number events head
    ++ part.Section section.Same ∷ part.Section section.Close ∷ []

-- two lines, if no more inodes are drawn
abbrev pub without_drawing : List ℕ → ℕ → ℕ → InodeHead → List Part
without_drawing text number events head =
    heading text number events head ++ part.Section section.Close ∷ [] ++ not_drawn number

abbrev pub differ : List ℕ → ℕ → ℕ → ℕ → InodeValue → InodeValue → List Part
differ text number room place i j =
    if nat_lt 0 room then both text number place i j
    else without_drawing text number (length i.events) i.head

abbrev pub pair_by : List ℕ → ℕ → ℕ → Option ℕ → InodeValue → InodeValue → List Part
pair_by text number room None i j = same text number (length i.events) i.head
pair_by text number room (Some place) i j = differ text number room place i j

-- ---- the inodes

-- of two reports at most as many inodes are drawn, and at most as many have a line
abbrev pub most_pairs : ℕ
most_pairs = 12

abbrev pub most_lines : ℕ
most_lines = 200

abbrev pub room_after : Option ℕ → ℕ → ℕ
room_after None room = room
room_after (Some place) room = room - 1

-- the inodes from this number on, if there is room for the drawings of so many
abbrev pub pairs_from : List ℕ → ℕ → ℕ → List InodeValue → List InodeValue → List Part
pairs_from text number room [] js = []
pairs_from text number room (i ∷ is) [] = []
pairs_from text number room (i ∷ is) (j ∷ js) =
    pair_by text number room (parted text i.events j.events) i j
    ++ pairs_from text (number + 1) (room_after (parted text i.events j.events) room) is js

-- how many inodes have a line
abbrev pub shown : List InodeValue → List InodeValue → ℕ
shown is js = min (min (length is) (length js)) most_lines

abbrev pub pairs : List ℕ → List InodeValue → List InodeValue → List Part
pairs text is js =
    pairs_from text 0 most_pairs (take (shown is js) is) (take (shown is js) js)
    ++ more (part.Section section.MoreInodes) (max (length is) (length js) - shown is js)
    (part.Section section.MoreInodesEnd)

-- ---- the inodes that are drawn

abbrev pub number_by : Option ℕ → ℕ → ℕ → List ℕ
number_by None room number = []
number_by (Some place) room number = if nat_lt 0 room then number ∷ [] else []

abbrev pub numbers_from : List ℕ → ℕ → ℕ → List InodeValue → List InodeValue → List ℕ
numbers_from text number room [] js = []
numbers_from text number room (i ∷ is) [] = []
numbers_from text number room (i ∷ is) (j ∷ js) =
    number_by (parted text i.events j.events) room number
    ++ numbers_from text (number + 1) (room_after (parted text i.events j.events) room) is js

-- the numbers of the inodes that are drawn
abbrev pub numbers : List ℕ → List InodeValue → List InodeValue → List ℕ
numbers text is js =
    numbers_from text 0 most_pairs (take (shown is js) is) (take (shown is js) js)

-- ---- the page

abbrev pub both_tiles : ReportValue → ReportValue → List Part
both_tiles r s =
    part.Frame frame.First ∷ [] ++ tiles r ++ part.Frame frame.Second ∷ [] ++ tiles s

-- what stands below the inodes of one report, with links to the events of these inodes
abbrev pub side_tables : List ℕ → Side → List ℕ → ReportValue → List Part
side_tables text s ns r = tables text s (planned r.inodes ns) r

-- the lists and the calls, side by side
abbrev pub both_tables : List ℕ → List ℕ → ReportValue → ReportValue → List Part
both_tables text ns r s =
    part.Frame frame.Both ∷ []
    ++ side_tables text side.First ns r
    ++ part.Frame frame.Beside ∷ []
    ++ side_tables text side.Second ns s
    ++ part.Frame frame.BothEnd ∷ []

abbrev pub pair_of : List ℕ → ReportValue → ReportValue → List InodeValue → List InodeValue
    → List Part
pair_of text r s is js =
    head frame.TwoRuns
    ++ both_tiles r s
    ++ pairs text is js
    ++ both_tables text (numbers text is js) r s
    ++ part.Frame frame.End ∷ []

-- the page of two reports, which were read from one text
abbrev pub pair_parts : List ℕ → ReportValue → ReportValue → List Part
pair_parts text r s = pair_of text r s r.inodes s.inodes

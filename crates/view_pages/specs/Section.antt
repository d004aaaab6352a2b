-- The section of an inode in a page.
use Rattle.std.specs.Prelude.{ℕ, ◌-◌, ◌==◌, nat_lt, List, [], ◌∷◌, ◌++◌, length, map, take, None, if◌then◌else◌}
use Rattle.std.specs.List.{flat_map}
use Rattle.view_drawing.specs.Drawing.{inode_pieces}
use Rattle.view_page.specs.declared.own.Side.{Side}
use Rattle.view_page.specs.declared.view.View.{View}
use Rattle.view_page.specs.journals.declared.window.Window.{Window}
use Rattle.view_page.specs.journals.reading.Report.{InodeValue}
use Rattle.view_page.specs.journals.reading.words.declared.event.Event.{Event}
use Rattle.view_page.specs.journals.reading.words.declared.event.Span.{Span}
use Rattle.view_page.specs.journals.reading.lines.declared.report.InodeHead.{InodeHead}
use Rattle.view_plan.specs.Order.{count}
use Rattle.view_overview.specs.Overview.{overview_of}
use Rattle.view_page.specs.Parts.{by_count, more}
use Rattle.view_plan.specs.Plan.{most_drawn}
use Rattle.view_sentences.specs.Sentences.{sentences}
use Rattle.view_page.specs.Words.{after_word, cut, first_word, path}
use Rattle.view_page.specs.declared.html.Section.TheVariants as section
use Rattle.view_plan.specs.declared.order.Grade.TheVariants as grade
use Rattle.view_page.specs.declared.part.Part.{Part}
use Rattle.view_page.specs.declared.part.Part.TheVariants as part
use Rattle.view_pages.specs.declared.section.Detail.{Detail}
use Rattle.view_pages.specs.declared.section.Detail.TheVariants as detail

-- a text that is shown up to its first `most` bytes, and more of it when one points at it
abbrev pub titled : ℕ → Span → List Part
titled most span =
    part.Text (cut 1024 span) ∷ part.Section section.Shown ∷ part.Text (cut most span) ∷ []

-- ---- the heading

-- how many events a journal has
abbrev pub length_of : ℕ → List Part
length_of n =
    part.Section section.Length ∷ part.Number n
    ∷ by_count n (part.Section section.Event) (part.Section section.Events) ∷ []

abbrev pub heading : List ℕ → ℕ → ℕ → InodeHead → List Part
heading text number events head =
    part.Section section.Inode ∷ part.Number number ∷ part.Section section.Path ∷ []
    ++ titled 80 (path text head)
    ++ length_of events

-- ---- the state at the end

abbrev pub attr : List ℕ → Span → List Part
attr text line =
    part.Section section.Attr ∷ part.Text (cut 1024 (after_word text line))
    ∷ part.Section section.Shown ∷ part.Text (cut 80 (first_word text line))
    ∷ part.Section section.AttrIs ∷ part.Text (cut 18 (after_word text line))
    ∷ part.Section section.Code ∷ []

-- no more attributes of an inode are shown
abbrev pub most_attrs : ℕ
most_attrs = 8

abbrev pub attrs : List ℕ → List Span → List Part
attrs text lines = flat_map (attr text) (take most_attrs lines)

abbrev pub counts : InodeHead → List Part
counts head =
    part.Section section.AtEnd ∷ part.Number head.writers ∷ part.Section section.Readers
    ∷ part.Number head.readers ∷ part.Section section.Execs ∷ part.Number head.execs ∷ []

abbrev pub at_end : List ℕ → InodeHead → List Span → List Part
at_end text head lines =
    counts head
    ++ part.Section section.Force ∷ []
    ++ titled 23 (after_word text head.force)
    ++ part.Section section.Code ∷ []
    ++ attrs text lines
    ++ more (part.Section section.More) (length lines - most_attrs)
    (part.Section section.MoreAttrs)
    ++ part.Section section.ParaEnd ∷ []

-- ---- the drawing

-- the drawing of these windows of a journal
abbrev pub drawing : View → List Event → List Window → List ℕ → List Part
drawing view journal ws differs =
    part.Section section.Wide ∷ []
    ++ map part.Drawn (inode_pieces view journal ws differs)
    ++ part.Section section.WideEnd ∷ []

abbrev pub not_drawn : ℕ → List Part
not_drawn number =
    part.Section section.NotDrawn ∷ part.Number number ∷ part.Section section.NotDrawnEnd ∷ []

-- the overview of a journal that isn't drawn whole
abbrev pub long_overview : List Event → List Window → List Part
long_overview journal ws =
    if nat_lt most_drawn (length journal) then overview_of journal ws else []

abbrev pub overview_if : Detail → List Event → List Window → List Part
overview_if detail.Overview journal ws = long_overview journal ws
overview_if detail.Windows journal ws = []

-- the drawing of these windows, if there are any
abbrev pub windows_drawn : View → List Window → List Event → List Part
windows_drawn view ws journal =
    if length ws == 0 then not_drawn view.inode else drawing view journal ws []

-- the overview, the drawing and the sentences
abbrev pub drawn_by : List ℕ → Detail → View → List Window → List Event → List Part
drawn_by text d view ws journal =
    overview_if d journal ws ++ windows_drawn view ws journal ++ sentences text view journal ws

-- of a journal with more than its birth
abbrev pub drawn : List ℕ → Detail → View → List Window → List Event → List Part
drawn text d view ws journal =
    if nat_lt (length journal) 2 then part.Section section.Birth ∷ []
    else if nat_lt (length journal) 4294967296 then drawn_by text d view ws journal
    else not_drawn view.inode

-- ---- the section

-- how many events are violations
abbrev pub violations : ℕ → List Part
violations n =
    more (part.Section section.Bad) n
    (by_count n (part.Section section.Violation) (part.Section section.Violations))

-- how many events are violations, and how many others are denials or labels
abbrev pub marked_by : ℕ → ℕ → List Part
marked_by n denials =
    violations n ++ more (part.Section section.Bad) denials (part.Section section.Denials)

abbrev pub marked : List Event → List Part
marked journal =
    marked_by (count grade.Violated journal)
    (count grade.Marked journal - count grade.Violated journal)

abbrev pub view_of : Side → ℕ → View
view_of s number = record { side = s; inode = number; parts = None }

abbrev pub section_by : List ℕ → Detail → View → List Window → InodeHead → List Span
    → List Event → List Part
section_by text d view ws head lines journal =
    heading text view.inode (length journal) head
    ++ marked journal
    ++ part.Section section.Close ∷ []
    ++ drawn text d view ws journal
    ++ at_end text head lines

-- the section of an inode, with these windows of its journal
abbrev pub section_of : List ℕ → Detail → View → List Window → InodeValue → List Part
section_of text d view ws i = section_by text d view ws i.head i.attrs i.events

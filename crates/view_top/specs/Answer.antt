-- The answer to an input.
use Rattle.std.specs.Prelude.{◌≡◌, ℕ, ◌-◌, Bool, true, ◌&&◌, nat_le, nat_lt, List, [], ◌∷◌, ◌++◌, length, codes, slice_get, Vec, Option, Some, None, Result, Ok, Err, if◌then◌else◌, ⊤}
use Rattle.text_forms.specs.Options.{◌>>=◌}
use Rattle.view_pages.specs.Page.{inode_page_parts, report_parts}
use Rattle.view_pages.specs.Pair.{pair_parts}
use Rattle.view_pages.specs.drawn.page.Parts.{page_of}
use Rattle.view_pages.specs.drawn.Drawing.{svg_of}
use Rattle.view_pages.specs.journals.declared.window.Window.{Window}
use Rattle.view_pages.specs.journals.reading.Read.{reports_of}
use Rattle.view_pages.specs.journals.reading.Report.{InodeValue, ReportValue}
use Rattle.view_pages.specs.journals.reading.words.declared.event.Event.{Event}
use Rattle.view_pages.specs.journals.reading.reports.Numerals.{numeral}
use Rattle.view_pages.specs.drawn.page.Pieces as pieces
use Rattle.view_top.specs.declared.command.Asked.{Asked}
use Rattle.view_top.specs.declared.command.Command.{Command}
use Rattle.view_top.specs.declared.command.Command.TheVariants as command
use Rattle.view_top.specs.declared.not_done.NotDone.{NotDone}
use Rattle.view_top.specs.declared.not_done.NotDone.TheVariants as not_done

-- the bytes of a page; the number of the input's first bad line; or that what is asked for isn't
-- there
pub data Answer : Type 0 where
  Page : List ℕ → Answer
  BadLine : ℕ → Answer
  NoPlace : Answer

-- ---- what is asked for

-- the most places of a range that is asked for
abbrev pub most_places : ℕ
most_places = 1000

-- the journal has the places, if some are asked for, and they aren't too many
abbrev pub has_places : List Event → Option Window → Bool
has_places journal None = true
has_places journal (Some w) =
    nat_le w.first w.last && nat_lt w.last (length journal) && nat_lt (w.last - w.first) most_places

abbrev pub if_drawable : InodeValue → Option Window → Option InodeValue
if_drawable i range = if has_places i.events range then Some i else None

-- the inode that is asked for, if it is there and its journal has the places
abbrev pub inode_asked : Asked → List ReportValue → Option InodeValue
inode_asked asked [] = None
inode_asked asked (r ∷ rs) = slice_get r.inodes asked.inode >>= λ i. if_drawable i asked.range

-- ---- what is drawn

-- the page that is there
abbrev pub drawn_by : (InodeValue → List ℕ) → Option InodeValue → Answer
drawn_by draw None = NoPlace
drawn_by draw (Some i) = Page (draw i)

abbrev pub page : List ℕ → List ReportValue → Answer
page text [] = NoPlace
page text (r ∷ rs) = Page (page_of text (report_parts text r))

abbrev pub pair : List ℕ → List ReportValue → Answer
pair text [] = NoPlace
pair text (r ∷ []) = NoPlace
pair text (r ∷ s ∷ rs) = Page (page_of text (pair_parts text r s))

abbrev pub inode_page : List ℕ → Asked → List ReportValue → Answer
inode_page text asked rs =
    drawn_by (λ i. page_of text (inode_page_parts text asked.inode i asked.range))
    (inode_asked asked rs)

abbrev pub drawing : List ℕ → Asked → List ReportValue → Answer
drawing text asked rs =
    drawn_by (λ i. pieces.page_of text (svg_of asked.inode i.events asked.range))
    (inode_asked asked rs)

-- what the command draws of the reports that the text is
abbrev pub drawn : Command → List ℕ → List ReportValue → Answer
drawn command.Page text rs = page text rs
drawn command.Pair text rs = pair text rs
drawn (command.Inode asked) text rs = inode_page text asked rs
drawn (command.Svg asked) text rs = drawing text asked rs

-- how many reports are read after the first
abbrev pub more : Command → ℕ
more command.Pair = 1
more _ = 0

abbrev pub answer_by : Command → List ℕ → Result (List ReportValue) ℕ → Answer
answer_by command text (Ok rs) = drawn command text rs
answer_by command text (Err line) = BadLine line

-- the answer to an input
unfoldable pub answer_of : Command → List ℕ → Answer
answer_of command text = answer_by command text (reports_of (more command) text)

-- ---- what an answer says

-- the line that refuses the input
abbrev pub bad_line : ℕ → List ℕ
bad_line number = codes "line " ++ numeral number ++ codes ": bad-line\n"

abbrev pub page_in : Answer → Option (List ℕ)
page_in (Page page) = Some page
page_in _ = None

abbrev pub refusal_in : Answer → Option (List ℕ)
refusal_in (BadLine number) = Some (bad_line number)
refusal_in _ = None

-- a page or the reason for none is that of the answer, unless memory runs out
abbrev pub Answers : {A : Type 0} → Result (Vec ℕ A) NotDone → Answer → Type 0
Answers (Ok page) answer = answer ≡ Page page.items
Answers (Err (not_done.Refused line)) answer = refusal_in answer ≡ Some line.items
Answers (Err not_done.NoPlace) answer = answer ≡ NoPlace
Answers (Err not_done.OutOfMemory) answer = ⊤
Answers (Err _) answer = ⊥

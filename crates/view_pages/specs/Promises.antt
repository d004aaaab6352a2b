-- What has to be true of a page.
use Rattle.std.specs.Prelude.{◌≡◌, ℕ, ◌==◌, ◌<◌, ◌≤◌, nat_le, ◌&&◌, Bool, true, false, IsTrue, List, count_by, length, sum_by, slice_get, Some}
use Rattle.std.specs.List.{list_all, list_any}
use Rattle.view_page.specs.Escape.{is_safe}
use Rattle.view_page.specs.Pieces.{is_own as is_own_piece}
use Rattle.view_page.specs.journals.Sentences.{adds}
use Rattle.view_page.specs.journals.Windows.{width}
use Rattle.view_page.specs.journals.declared.window.Window.{Window}
use Rattle.view_page.specs.journals.reading.Report.{InodeValue}
use Rattle.view_page.specs.journals.reading.words.declared.event.Event.{Event}
use Rattle.view_tables.specs.Calls.{firsts}
use Rattle.view_plan.specs.Order.{order}
use Rattle.view_pages.specs.Page.{added}
use Rattle.view_page.specs.Parts.{bytes_of}
use Rattle.view_plan.specs.Plan.{is_drawn, most_places, planned, windows_in}
use Rattle.view_page.specs.declared.part.Part.{Part}
use Rattle.view_page.specs.declared.part.Part.TheVariants as part
use Rattle.view_plan.specs.declared.plan.Shown.{Shown}
use Rattle.view_plan.specs.declared.slots.At.{At}

-- ---- tags

-- the part is of the program's own bytes
abbrev pub is_own : Part → Bool
is_own (part.Number n) = false
is_own (part.Text span) = false
is_own (part.Drawn p) = is_own_piece p
is_own _ = true

-- of the parts of a page only the program's own have `<`, `>` and `"`
abbrev pub OnlyOwnPartsMakeTags : Type 0
OnlyOwnPartsMakeTags =
    (text : List ℕ) (p : Part) → is_own p ≡ false → IsTrue (list_all is_safe (bytes_of text p))

-- ---- the order

-- each inode stands once in the order
abbrev pub EachInodeIsOrdered : Type 0
EachInodeIsOrdered =
    (inodes : List InodeValue) (n : ℕ) → n < length inodes
    → count_by (λ m. m == n) (order inodes) ≡ 1

-- ---- the room

-- a page draws at most so many events
abbrev pub DrawnEventsAreBounded : Type 0
DrawnEventsAreBounded =
    (inodes : List InodeValue) (order : List ℕ)
    → sum_by (λ (s : Shown). width s.window) (planned inodes order) ≤ most_places

-- ---- links

-- an event of which P holds, with its line
pub record LeadsTo (P : Event → Type 0) (inodes : List InodeValue) (at : At) : Type 0 where
  pub inode : InodeValue
  pub event : Event
  pub has_inode : slice_get inodes at.inode ≡ Some inode
  pub has_event : slice_get inode.events at.place ≡ Some event
  pub line : at.line ≡ event.line
  pub holds : P event

-- the event that is named as that which added an entry did so
abbrev pub EntriesLeadToTheirEvents : Type 0
EntriesLeadToTheirEvents =
    (n : ℕ) (inodes : List InodeValue) (entry : ℕ) (at : At)
    → slice_get (added n inodes) entry ≡ Some (Some at)
    → LeadsTo (λ e. adds entry e ≡ true) inodes at

pub record IsOfCall (task call : ℕ) (e : Event) : Type 0 where
  pub is_task : e.who.task ≡ task
  pub is_call : e.who.call ≡ call

-- the event that is named as one of a task's call is one
abbrev pub CallsLeadToTheirEvents : Type 0
CallsLeadToTheirEvents =
    (n : ℕ) (inodes : List InodeValue) (task call : ℕ) (at : At)
    → slice_get (firsts task n inodes) call ≡ Some (Some at)
    → LeadsTo (IsOfCall task call) inodes at

-- the window has the place
abbrev pub has_place : ℕ → Window → Bool
has_place place w = nat_le w.first place && nat_le place w.last

-- an event that has a link is in a window of its inode's drawing
abbrev pub LinksLeadToDrawnEvents : Type 0
LinksLeadToDrawnEvents =
    (at : At) (ss : List Shown) → is_drawn at ss ≡ true
    → list_any (has_place at.place) (windows_in at.inode ss) ≡ true

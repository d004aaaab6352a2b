-- Bars: an open file, from its count to its drop.
use Rattle.std.specs.Prelude.{◌≡◌, ℕ, ◌+◌, ◌<◌, ◌==◌, nat_le, nat_lt, Bool, true, false, ◌&&◌, List, [], ◌∷◌, ◌++◌, length, map, drop, reverse, slice_set, slice_index, Option, Some, None, is_some, unwrap_or, if◌then◌else◌}
use Rattle.std.specs.List.{list_any}
use Rattle.report_read.specs.words.declared.event.Event.{Event}
use Rattle.report_read.specs.words.declared.event.Kind.{Kind}
use Rattle.view_journal.specs.declared.bars.Bar.{Bar}
use Rattle.view_journal.specs.declared.frame.Extent.{Extent}
use Rattle.view_journal.specs.declared.window.Window.{Window}
use Rattle.view_journal.specs.Files.{dropped, opened}

abbrev pub is_file : ℕ → Option ℕ → Bool
is_file file None = false
is_file file (Some f) = f == file

-- the place of the first of these events that drops the file, if one does
abbrev pub drop_from : ℕ → ℕ → List Event → Option ℕ
drop_from place file [] = None
drop_from place file (e ∷ es) =
    if is_file file (dropped e.deed e.outcome) then Some place else drop_from (place + 1) file es

abbrev pub bar_by : ℕ → Event → Kind → Option ℕ → ℕ → Bar
bar_by place e k drop last = record {
  file = place;
  kind = k;
  task = e.who.task;
  last = unwrap_or drop last;
  still = if is_some drop then false else true;
}

abbrev pub bars_at : ℕ → Event → Option Kind → List Event → List Bar
bars_at place e None after = []
bars_at place e (Some k) after =
    bar_by place e k (drop_from (place + 1) place after) (place + length after) ∷ []

abbrev pub bars_from : ℕ → List Event → List Bar
bars_from place [] = []
bars_from place (e ∷ es) =
    bars_at place e (opened e.deed e.outcome) es ++ bars_from (place + 1) es

-- the bars of a journal, in the order of their counts
abbrev pub bars : List Event → List Bar
bars journal = bars_from 0 journal

-- ---- lanes

abbrev pub extent_of : Bar → Extent
extent_of b = record { from = b.file; to = b.last }

-- the bars of a task, in the order of their counts
abbrev pub own : ℕ → List Bar → List Bar
own task [] = []
own task (b ∷ bs) = if b.task == task then b ∷ own task bs else own task bs

abbrev pub extents : List Bar → List Extent
extents bs = map extent_of bs

abbrev pub lane : ℕ → List Bar → List Extent
lane task bs = extents (own task bs)

-- ---- the bars of a drawing

-- at most as many bars are drawn, those of the files that were opened last
abbrev pub most_bars : ℕ
most_bars = 240

abbrev pub meets : Bar → Window → Bool
meets b w = nat_le w.first b.last && nat_le b.file w.last

-- the bar, before others, if a window shows a part of it and there is room
abbrev pub with_bar : List Window → Bar → List Bar → List Bar
with_bar ws b bs =
    if list_any (meets b) ws && nat_lt (length bs) most_bars then b ∷ bs else bs

abbrev pub kept : List Window → List Bar → List Bar
kept ws [] = []
kept ws (b ∷ bs) = with_bar ws b (kept ws bs)

-- the bars of a journal of which these windows show a part
abbrev pub shown_bars : List Window → List Event → List Bar
shown_bars ws journal = kept ws (bars journal)

-- ---- from the end

-- the bars so far, the last first, with that of one more event, if it has one
abbrev pub with_reversed : List Window → ℕ → Event → Option Kind → Option ℕ → ℕ → List Bar
    → List Bar
with_reversed ws place e None drop last bs = bs
with_reversed ws place e (Some k) drop last bs =
    if list_any (meets (bar_by place e k drop last)) ws && nat_lt (length bs) most_bars
    then bs ++ bar_by place e k drop last ∷ [] else bs

-- 0 stands for no drop
abbrev pub drop_in : ℕ → Option ℕ
drop_in slot = if slot == 0 then None else Some slot

-- the first drop of each file, with one more before them
abbrev pub with_drop : List ℕ → Option ℕ → ℕ → List ℕ
with_drop drops None place = drops
with_drop drops (Some file) place = slice_set drops file place

-- what a walk from the end has at a place: the first drop of each file from there on, or 0, and the
-- bars from there on, the last first
pub record IsWalked (ws : List Window) (journal : List Event) (place : ℕ) (drops : List ℕ)
    (found : List Bar) : Type 0 where
  pub as_many : length drops ≡ length journal
  pub first : (f : ℕ) → f < length journal
      → slice_index drops f ≡ unwrap_or (drop_from place f (drop place journal)) 0
  pub bars : found ≡ reverse (kept ws (bars_from place (drop place journal)))

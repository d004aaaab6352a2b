-- The bars of a lane stand in the order of their counts.
use Rattle.std.proofs.Common.{ℕ, ◌+◌, ◌≤◌, ◌==◌, ◌&&◌, Bool, true, false, cond, List, [], ◌∷◌, ◌++◌, length, Option, Some, None, arith}
use Rattle.std.specs.Prelude.{nat_lt}
use Rattle.std.specs.List.{list_any}
use Rattle.report_read.specs.words.declared.event.Event.{Event}
use Rattle.report_read.specs.words.declared.event.Kind.{Kind}
use Rattle.view_journal.specs.declared.bars.Bar.{Bar}
use Rattle.view_journal.specs.declared.window.Window.{Window}
use Rattle.view_journal.specs.Bars.{bars_at, bars_from, extents, kept, meets, most_bars, own}
use Rattle.view_journal.specs.Files.{opened}
use Rattle.view_journal.specs.Frame.{AreInOrder, BeginAfter}
use Rattle.view_journal.specs.Promises.{LanesAreInOrder}

-- the files were opened at this place or after it
abbrev Later : ℕ → List Bar → Type 0
Later from [] = Unit {0}
Later from (b ∷ bs) = (from ≤ b.file) × Later from bs

-- the bars are in the order of their counts
abbrev Ordered : List Bar → Type 0
Ordered [] = Unit {0}
Ordered (b ∷ bs) = Later b.file bs × Ordered bs

-- ---- the bars of a journal

later_at : (from place : ℕ) (e : Event) (es : List Event) (o : Option Kind) (rest : List Bar)
    → from ≤ place → Later from rest → Later from (bars_at place e o es ++ rest)
later_at from place e es None rest h k = k
later_at from place e es (Some kind) rest h k = (h, k)

later : (from place : ℕ) (es : List Event) → from ≤ place → Later from (bars_from place es)
later from place [] h = tt
later from place (e ∷ es) h =
    later_at from place e es (opened e.deed e.outcome) (bars_from (place + 1) es) h
    (later from (place + 1) es (omega (arith, h)))

ordered_at : (place : ℕ) (e : Event) (es : List Event) (o : Option Kind) (rest : List Bar)
    → Later place rest → Ordered rest → Ordered (bars_at place e o es ++ rest)
ordered_at place e es None rest h k = k
ordered_at place e es (Some kind) rest h k = (h, k)

ordered : (place : ℕ) (es : List Event) → Ordered (bars_from place es)
ordered place [] = tt
ordered place (e ∷ es) =
    ordered_at place e es (opened e.deed e.outcome) (bars_from (place + 1) es)
    (later place (place + 1) es (omega arith)) (ordered (place + 1) es)

-- ---- some of the bars

later_by : (from : ℕ) (b : Bool) (x : Bar) (xs : List Bar) → from ≤ x.file → Later from xs
    → Later from (cond b (x ∷ xs) xs)
later_by from true x xs h k = (h, k)
later_by from false x xs h k = k

ordered_by : (b : Bool) (x : Bar) (xs : List Bar) → Later x.file xs → Ordered xs
    → Ordered (cond b (x ∷ xs) xs)
ordered_by true x xs h k = (h, k)
ordered_by false x xs h k = k

later_own : (from task : ℕ) (bs : List Bar) → Later from bs → Later from (own task bs)
later_own from task [] h = tt
later_own from task (b ∷ bs) h =
    later_by from (b.task == task) b (own task bs) h.0 (later_own from task bs h.1)

ordered_own : (task : ℕ) (bs : List Bar) → Ordered bs → Ordered (own task bs)
ordered_own task [] h = tt
ordered_own task (b ∷ bs) h =
    ordered_by (b.task == task) b (own task bs) (later_own b.file task bs h.0)
    (ordered_own task bs h.1)

abbrev is_kept : List Window → Bar → List Bar → Bool
is_kept ws b bs = list_any (meets b) ws && nat_lt (length (kept ws bs)) most_bars

later_kept : (from : ℕ) (ws : List Window) (bs : List Bar) → Later from bs
    → Later from (kept ws bs)
later_kept from ws [] h = tt
later_kept from ws (b ∷ bs) h =
    later_by from (is_kept ws b bs) b (kept ws bs) h.0 (later_kept from ws bs h.1)

ordered_kept : (ws : List Window) (bs : List Bar) → Ordered bs → Ordered (kept ws bs)
ordered_kept ws [] h = tt
ordered_kept ws (b ∷ bs) h =
    ordered_by (is_kept ws b bs) b (kept ws bs) (later_kept b.file ws bs h.0)
    (ordered_kept ws bs h.1)

-- ---- their places

begin_after : (from : ℕ) (bs : List Bar) → Later from bs → BeginAfter from (extents bs)
begin_after from [] h = tt
begin_after from (b ∷ bs) h = (h.0, begin_after from bs h.1)

in_order : (bs : List Bar) → Ordered bs → AreInOrder (extents bs)
in_order [] h = tt
in_order (b ∷ bs) h = (begin_after b.file bs h.0, in_order bs h.1)

pub lanes_are_in_order : LanesAreInOrder
lanes_are_in_order = record {
  all = λ (task : ℕ) (journal : List Event).
      in_order (own task (bars_from 0 journal))
      (ordered_own task (bars_from 0 journal) (ordered 0 journal));
  drawn = λ (task : ℕ) (ws : List Window) (journal : List Event).
      in_order (own task (kept ws (bars_from 0 journal)))
      (ordered_own task (kept ws (bars_from 0 journal))
      (ordered_kept ws (bars_from 0 journal) (ordered 0 journal)));
}

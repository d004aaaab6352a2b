-- The windows of a journal come one after another.
use Rattle.std.proofs.Common.{◌≡◌, ℕ, ◌+◌, ◌-◌, ◌<◌, ◌≤◌, ◌==◌, Bool, true, false, List, [], ◌∷◌, length, map, refl, arith, inl, inr}
use Rattle.std.specs.Prelude.{nat_le}
use Rattle.std.proofs.lemmas.Bool.{cases_Bool, leb-false}
use Rattle.report_read.specs.Short.{short}
use Rattle.report_read.specs.words.declared.event.Event.{Event}
use Rattle.view_journal.specs.declared.window.Growth.{Growth}
use Rattle.view_journal.specs.declared.window.Window.{Window}
use Rattle.view_journal.specs.Promises.{WindowsAreInOrder}
use Rattle.view_journal.specs.Windows.{AreWindows, around, first_window, grow, grow_open, grown, grown_to, joined, of_interest, whole, width, windows}

whole_is : (n : ℕ) → AreWindows 0 (whole n)
whole_is n =
    elim (cases_Bool (n == 0)) [
      | inl t ↦ rw t tt
      | inr f ↦ rw f (omega arith, omega arith, tt)
    ]

around_is : (last p : ℕ) → (around last p).first ≤ (around last p).last
around_is last p = omega arith

-- where a window stands that is parted from w, or begins with it
abbrev Goes : Bool → Window → Window → Type 0
Goes true w v = w.last + 1 ≤ v.first
Goes false w v = v.first ≡ w.first

abbrev IsNext : Window → Growth → Type 0
IsNext w h = (h.window.first ≤ h.window.last) × Goes h.parted w h.window

to_is : (most : ℕ) (g : Growth) (w : Window) (used : ℕ) (parted : Bool)
    → g.window.first ≤ g.window.last → w.first ≤ w.last → Goes parted g.window w
    → IsNext g.window (grown_to most g w used parted)
to_is most g w used parted o p goes =
    elim (cases_Bool (nat_le used most)) [
      | inl t ↦ rw t (p, goes)
      | inr f ↦ rw f (o, refl)
    ]

open_is : (most : ℕ) (g : Growth) (v : Window) → g.window.first ≤ g.window.last
    → v.first ≤ v.last → IsNext g.window (grow_open most g v)
open_is most g v o p =
    elim (cases_Bool (nat_le v.first (g.window.last + 2))) [
      | inl t ↦ rw t
          (to_is most g (joined g.window v)
          (g.used + ((joined g.window v).last - g.window.last)) false o (omega (arith, o)) refl)
      | inr f ↦
          let far : g.window.last + 2 < v.first = leb-false v.first (g.window.last + 2) f in
          rw f (to_is most g v (g.used + width v) true o p (omega (arith, far)))
    ]

grow_is : (most : ℕ) (g : Growth) (v : Window) → g.window.first ≤ g.window.last
    → v.first ≤ v.last → IsNext g.window (grow most g v)
grow_is most g v o p =
    elim (cases_Bool g.more) [
      | inl t ↦ rw t (open_is most g v o p)
      | inr f ↦ rw f (o, refl)
    ]

grown_is : (most last next : ℕ) (g : Growth) (ps : List ℕ) → next ≤ g.window.first
    → g.window.first ≤ g.window.last → AreWindows next (grown most last g ps)
grown_is most last next g [] a b = (a, b, tt)
grown_is most last next g (p ∷ ps) a b =
    let step : IsNext g.window (grow most g (around last p))
    = grow_is most g (around last p) b (around_is last p) in
    elim (cases_Bool (grow most g (around last p)).parted) [
      | inl t ↦
          let after : Goes true g.window (grow most g (around last p)).window
          = rw t at step.1 in
          rw t (
            a,
            b,
            grown_is most last (g.window.last + 1) (grow most g (around last p)) ps after step.0,
          )
      | inr f ↦
          let same : Goes false g.window (grow most g (around last p)).window
          = rw f at step.1 in
          rw f
          (grown_is most last next (grow most g (around last p)) ps (omega (arith, a, same))
          step.0)
    ]

pub windows_in_order : (most : ℕ) (journal : List Event) → AreWindows 0 (windows most journal)
windows_in_order most journal =
    elim (cases_Bool (nat_le (length journal) most)) [
      | inl t ↦ rw t (whole_is (length journal))
      | inr f ↦ rw f
          (grown_is most (length journal - 1) 0 (first_window (length journal - 1))
          (of_interest journal) (omega arith) (around_is (length journal - 1) 0))
    ]

pub windows_are_in_order : WindowsAreInOrder
windows_are_in_order most journal = windows_in_order most (map short journal)

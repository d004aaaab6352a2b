-- The facts that each kind of step gives its caller.
use Rattle.std.specs.Prelude.{◌≡◌, ℕ, ◌<◌, None, List, length, All}
use mathlib.Core.List.{IsPrefix}
use Rattle.atomic_table.specs.Table.{Step, Me}
use Rattle.grow_list.specs.declared.views.Listed.{Listed}
use Rattle.grow_list.specs.declared.views.Held.{Held}
use Rattle.grow_list.specs.declared.views.SeatView.{SeatView}
use Rattle.grow_list.specs.declared.views.SeatView.TheVariants.{OfList, OfPass}
use Rattle.grow_list.specs.Views.{listed, held, newcomer, longer, heard, learned, entries_in}

-- what the list's seat learns about a pass that it met
pub record Agrees {E : Type 0} (l : Listed E) (p : Held E) : Type 0 where
  pub seen : IsPrefix p.seen l.list
  pub mine : l.pending ≡ None → IsPrefix p.mine (entries_in p.number l)
  pub number : p.number < l.callers
  pub even : length l.numbers ≡ length l.list

-- what a pass's seat learns about the list that it met: the entries with its number are its own
abbrev pub Owns : {E : Type 0} → Held E → Listed E → Type 0
Owns p l = l.pending ≡ None → IsPrefix (entries_in p.number l) p.mine

-- each entry belongs to one of the callers
pub record IsComplete {E : Type 0} (l : Listed E) : Type 0 where
  pub below : All (λ m. m < l.callers) l.numbers
  pub even : length l.numbers ≡ length l.list

module _ {E : Type 0} where
  abbrev pub Drawn : ℕ → Step (Unit {0}) → Me (Unit {0}) (SeatView E) → ℕ
      → Me (Unit {0}) (SeatView E) → Type 0
  Drawn seat s v found w = found ≡ s.first → w
      ≡ (OfPass (newcomer seat s.first (listed v.0).callers), v.1)

  abbrev pub Added : List E → Step (Unit {0}) → Me (Unit {0}) (SeatView E) → ℕ
      → Me (Unit {0}) (SeatView E) → Type 0
  Added entry s v stored w = w ≡ (OfList (longer (listed v.0) (held v.0).number entry), v.1)

  abbrev pub Heard : Step (Unit {0}) → Me (Unit {0}) (SeatView E) → ℕ → Me (Unit {0}) (SeatView E)
      → Type 0
  Heard s v found w = (w ≡ (OfList (heard (listed v.0) (held v.0)), v.1))
      × Agrees (listed v.0) (held v.0)

  abbrev pub Learned : Step (Unit {0}) → Me (Unit {0}) (SeatView E) → ℕ → Me (Unit {0}) (SeatView E)
      → Type 0
  Learned s v found w = (w ≡ (OfPass (learned (held v.0) (listed v.0)), v.1))
      × Owns (held v.0) (listed v.0)

  abbrev pub Closed : Step (Unit {0}) → Me (Unit {0}) (SeatView E) → ℕ → Me (Unit {0}) (SeatView E)
      → Type 0
  Closed s v found w = (w ≡ v) × IsComplete (listed v.0)

-- The rule: an invariant of the words and of all views between any two steps.
use Rattle.std.specs.Prelude.{◌≡◌, ◌⊎◌, ℕ, ◌<◌, ◌≤◌, Option, None, Some, List, [], ◌∷◌, ◌++◌, length, All}
use mathlib.Core.List.{IsPrefix}
use mathlib.Core.Option.{some}
use lib.ListN.{get_elem?}
use Rattle.atomic_table.specs.Table.{State}
use Rattle.grow_list.specs.declared.views.Listed.{Listed}
use Rattle.grow_list.specs.declared.views.Held.{Held}
use Rattle.grow_list.specs.declared.views.SeatView.{SeatView}
use Rattle.grow_list.specs.declared.views.SeatView.TheVariants.{Spent, OfList, OfPass, ListBeside, PassBeside}
use Rattle.grow_list.specs.Entries.{entries_of}
use Rattle.grow_list.specs.Views.{entries_in}

-- the list, the number of each entry's pass, the pending mark, the number of callers, the next
-- number, the seat that drew each number, and each pass's own entries
pub record Story (E : Type 0) : Type 0 where
  pub list : List E
  pub numbers : List ℕ
  pub pending : Option ℕ
  pub callers : ℕ
  pub next : ℕ
  pub owner : ℕ → ℕ
  pub mine : ℕ → List (ℕ × E)

-- a view of the list, which may be out of date
pub record WasList {E : Type 0} (t : Story E) (l : Listed E) : Type 0 where
  pub list : IsPrefix l.list t.list
  pub numbers : IsPrefix l.numbers t.numbers
  pub even : length l.numbers ≡ length l.list
  pub callers : l.callers ≡ t.callers
  pub taken : l.pending ≡ None → (n : ℕ) → IsPrefix (entries_in n l) (t.mine n)

-- the view of the list's own seat
pub record IsList {E : Type 0} (t : Story E) (l : Listed E) : Type 0 where
  pub list : l.list ≡ t.list
  pub numbers : l.numbers ≡ t.numbers
  pub pending : l.pending ≡ t.pending

-- a view of a pass, which may be out of date
pub record WasPass {E : Type 0} (t : Story E) (p : Held E) : Type 0 where
  pub owner : t.owner p.number ≡ p.seat
  pub drawn : p.number < t.next
  pub callers : p.callers ≡ t.callers
  pub seen : IsPrefix p.seen t.list
  pub mine : IsPrefix p.mine (t.mine p.number)

-- The list's own seat is the first one, and a pass's own seat is the one that drew its number.
abbrev pub Fits : {E : Type 0} → Story E → ℕ → SeatView E → Type 0
Fits t seat Spent = Unit {0}
Fits t seat (OfList l) = WasList t l × (seat ≡ 0 → IsList t l)
Fits t seat (OfPass p) = WasPass t p × (seat ≡ p.seat → t.mine p.number ≡ p.mine)
Fits t seat (ListBeside l p) = WasList t l × (seat ≡ 0 → IsList t l) × WasPass t p
Fits t seat (PassBeside p l) = WasPass t p × (seat ≡ p.seat → t.mine p.number ≡ p.mine)
    × WasList t l

-- the list's entries with a number are its pass's own, except for one that may still be pending
abbrev pub Counts : {E : Type 0} → Option ℕ → ℕ → List (ℕ × E) → List (ℕ × E) → Type 0
Counts {E} pending n entries mine =
    (entries ≡ mine) ⊎ ((pending ≡ Some n) × ((x : ℕ × E) × (entries ≡ mine ++ x ∷ [])))

pub record HasStory {E : Type 0} (callers : ℕ) (s : State (Unit {0}) (SeatView E)) : Type 0 where
  pub story : Story E
  pub callers_are : story.callers ≡ callers
  pub words : s.words ≡ length story.list ∷ story.next ∷ []
  pub room : story.next ≤ story.callers
  pub even : length story.numbers ≡ length story.list
  pub below : All (λ m. m < story.next) story.numbers
  -- the marked entry is the last of the list
  pub marked : (n : ℕ) → story.pending ≡ Some n → (before : List ℕ)
      × (story.numbers ≡ before ++ n ∷ [])
  pub owned : (n : ℕ) → n < story.next → story.owner n < length s.views
  pub undrawn : (n : ℕ) → story.next ≤ n → story.mine n ≡ []
  pub counted : (n : ℕ) → Counts story.pending n (entries_of n story.numbers story.list)
      (story.mine n)
  pub each : (seat : ℕ) (v : SeatView E) → get_elem? s.views seat ≡ some v → Fits story seat v

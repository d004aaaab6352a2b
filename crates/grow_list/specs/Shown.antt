-- A growing list and its passes as contracts see them.
use Rattle.std.specs.Prelude.{◌≡◌, ℕ, ◌<◌, ◌==◌, List, [], All, count_by}
use mathlib.Core.List.{IsPrefix}
use Rattle.atomic_table.specs.Seated.{TableId}
use Rattle.atomic_table.specs.declared.shared.Seat.{Seat}
use Rattle.grow_list.specs.declared.views.SeatView.{SeatView}
use Rattle.grow_list.specs.Entries.{entries_of}
use Rattle.grow_list.specs.declared.views.Listed.{Listed}
use Rattle.grow_list.specs.Views.{held, entries_in}

-- the identity of a list: plain data, and different lists have different names
abbrev pub ListName : Type 0
ListName = TableId

-- a name that no list has
abbrev pub no_name : ListName
no_name = record {
  words = 0;
  slots = 0;
  views_name = 0;
  atom = 0;
  block = 0;
  offset =
      0;
  slot_names = [];
}

-- a list with, for each entry, the number of the pass that added it, and the number of further
-- entries it has room for
pub record Grown (E : Type 0) : Type 0 where
  pub name : ListName
  pub callers : ℕ
  pub spare : ℕ
  pub list : List E
  pub numbers : List ℕ

-- a pass of the list with this name: its number, the list as it last saw it, and its own entries
-- with their indices
pub record Passed (E : Type 0) : Type 0 where
  pub name : ListName
  pub number : ℕ
  pub seen : List E
  pub mine : List (ℕ × E)

-- the same list, except that its room may differ
pub record IsSameList {E : Type 0} (old new : Grown E) : Type 0 where
  pub name : new.name ≡ old.name
  pub callers : new.callers ≡ old.callers
  pub list : new.list ≡ old.list
  pub numbers : new.numbers ≡ old.numbers

-- the list's entries with this pass's number are its own, in order, each once
abbrev pub HasItsOwn : {E : Type 0} → Grown E → Passed E → Type 0
HasItsOwn g p = entries_of p.number g.numbers g.list ≡ p.mine

-- the passes are those of this list, exactly one for each number
pub record HasEach {E : Type 0} (g : Grown E) (passes : List (Passed E)) : Type 0 where
  pub of_list : All (λ p. p.name ≡ g.name) passes
  pub one_each : (n : ℕ) → n < g.callers → count_by (λ p. p.number == n) passes ≡ 1

-- a pass that hasn't seen or added any entry
abbrev pub fresh : {E : Type 0} → ListName → ℕ → Passed E
fresh name number = record { name = name; number = number; seen = []; mine = [] }

-- the pass accounts for what it saw and added: the list begins with what it saw, and the list's
-- entries with its number are its own
abbrev pub Accounts : {E : Type 0} → Listed E → Passed E → Type 0
Accounts l p = IsPrefix p.seen l.list × (entries_in p.number l ≡ p.mine)

-- the pass agrees with the view of its seat
pub record IsPassAt {E : Type 0} (p : Passed E) (seat : Seat (Unit {0}) (SeatView E)) : Type 0 where
  pub name : p.name ≡ seat.table_id
  pub number : p.number ≡ (held seat.me.0).number
  pub seen : p.seen ≡ (held seat.me.0).seen
  pub mine : p.mine ≡ (held seat.me.0).mine

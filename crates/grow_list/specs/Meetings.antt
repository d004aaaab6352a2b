-- The effects of a meeting in both directions, and of a push.
use Rattle.std.specs.Prelude.{◌≡◌, ℕ, ◌<◌, None, [], ◌∷◌, ◌++◌, length, All}
use mathlib.Core.List.{IsPrefix}
use Rattle.atomic_table.specs.declared.shared.Seat.{Seat}
use Rattle.grow_list.specs.declared.views.Listed.{Listed}
use Rattle.grow_list.specs.declared.views.Held.{Held}
use Rattle.grow_list.specs.declared.views.SeatView.{SeatView}
use Rattle.grow_list.specs.declared.views.SeatView.TheVariants.{OfList, OfPass}
use Rattle.grow_list.specs.Views.{listed, held, entries_in}

-- the seat has moved to this view, at the same table
pub record IsMoved {E : Type 0} (old new : Seat (Unit {0}) (SeatView E))
    (view : SeatView E) : Type 0
  where
    pub table_id : new.table_id ≡ old.table_id
    pub id : new.id ≡ old.id
    pub me : new.me ≡ (view, old.me.1)

-- the list's own seat, with nothing pending
pub record IsListSeat {E : Type 0} (seat : Seat (Unit {0}) (SeatView E)) : Type 0 where
  pub first : seat.id ≡ 0
  pub view : seat.me.0 ≡ OfList (listed seat.me.0)
  pub settled : (listed seat.me.0).pending ≡ None

-- a pass's own seat
pub record IsPassSeat {E : Type 0} (seat : Seat (Unit {0}) (SeatView E)) : Type 0 where
  pub own : seat.id ≡ (held seat.me.0).seat
  pub view : seat.me.0 ≡ OfPass (held seat.me.0)

-- the list begins with what the pass saw, the list's entries with the pass's number are its own,
-- and their indices are within the list
pub record Tallies {E : Type 0} (l : Listed E) (p : Held E) : Type 0 where
  pub seen : IsPrefix p.seen l.list
  pub own : entries_in p.number l ≡ p.mine
  pub placed : All (λ x. x.0 < length l.list) p.mine
  pub number : p.number < l.callers
  pub even : length l.numbers ≡ length l.list

module _ {E : Type 0} where
  -- the pass, after it has seen the whole list
  abbrev pub caught_up : Held E → Listed E → Held E
  caught_up p l = record {
    seat = p.seat;
    number = p.number;
    callers = p.callers;
    seen = l.list;
    mine = p.mine;
  }

  -- the list and the pass after a push
  abbrev pub grown : Listed E → ℕ → E → Listed E
  grown l n e = record {
    list = l.list ++ e ∷ [];
    numbers = l.numbers ++ n ∷ [];
    callers =
        l.callers;
    pending = None;
  }

  abbrev pub enlarged : Held E → Listed E → E → Held E
  enlarged p l e = record {
    seat = p.seat;
    number = p.number;
    callers = p.callers;
    seen = l.list ++ e ∷ [];
    mine = p.mine ++ (length l.list, e) ∷ [];
  }

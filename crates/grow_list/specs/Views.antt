-- The views of seats, and the views that result when seats meet.
use Rattle.std.specs.Prelude.{ℕ, ◌==◌, nat_lt, nat_le, ◌&&◌, Bool, false, if◌then◌else◌, Option, None, Some, List, [], ◌∷◌, ◌++◌, length}
use Rattle.grow_list.specs.declared.views.Listed.{Listed}
use Rattle.grow_list.specs.declared.views.Held.{Held}
use Rattle.grow_list.specs.declared.views.SeatView.{SeatView}
use Rattle.grow_list.specs.declared.views.SeatView.TheVariants.{Spent, OfList, OfPass, ListBeside, PassBeside}
use Rattle.grow_list.specs.Entries.{entries_of}

-- the longer of two lists, one of which is a prefix of the other
abbrev pub longest : {X : Type 0} → List X → List X → List X
longest xs ys = if nat_lt (length xs) (length ys) then ys else xs

-- the pending mark has this number
abbrev pub marks : ℕ → Option ℕ → Bool
marks n None = false
marks n (Some m) = n == m

module _ {E : Type 0} where
  abbrev pub no_list : Listed E
  no_list = record { list = []; numbers = []; callers = 0; pending = None }

  abbrev pub no_pass : Held E
  no_pass = record { seat = 0; number = 0; callers = 0; seen = []; mine = [] }

  -- the view of the list's seat at the start
  abbrev pub newborn : ℕ → SeatView E
  newborn callers = OfList (record { list = []; numbers = []; callers = callers; pending = None })

  -- a pass that has just drawn its number
  abbrev pub newcomer : ℕ → ℕ → ℕ → Held E
  newcomer seat number callers =
      record { seat = seat; number = number; callers = callers; seen = []; mine = [] }

  -- the list and the pass, as far as a view knows them
  abbrev pub listed : SeatView E → Listed E
  listed Spent = no_list
  listed (OfList l) = l
  listed (OfPass p) = no_list
  listed (ListBeside l p) = l
  listed (PassBeside p l) = l

  abbrev pub held : SeatView E → Held E
  held Spent = no_pass
  held (OfList l) = no_pass
  held (OfPass p) = p
  held (ListBeside l p) = p
  held (PassBeside p l) = p

  -- the views of the list and of a pass, joined in the seat of the first
  abbrev pub met : SeatView E → SeatView E → SeatView E
  met (OfList l) (OfPass p) = ListBeside l p
  met (OfPass p) (OfList l) = PassBeside p l
  met v w = v

  abbrev pub entries_in : ℕ → Listed E → List (ℕ × E)
  entries_in n l = entries_of n l.numbers l.list

  -- the list after an entry with this number is appended and marked as pending
  abbrev pub longer : Listed E → ℕ → List E → Listed E
  longer l n entry =
      record {
        list = l.list ++ entry;
        numbers = l.numbers ++ n ∷ [];
        callers = l.callers;
        pending =
            Some n;
      }

  -- the list, whose mark is cleared if the pass has taken the entry in
  abbrev pub heard : Listed E → Held E → Listed E
  heard l p = record {
    list = l.list;
    numbers = l.numbers;
    callers = l.callers;
    pending = if marks p.number l.pending && nat_le (length (entries_in p.number l)) (length p.mine)
        then None else l.pending;
  }

  -- what the pass has seen, and its own entries, after it has met the list
  abbrev pub learned : Held E → Listed E → Held E
  learned p l = record {
    seat = p.seat;
    number = p.number;
    callers = p.callers;
    seen = longest p.seen l.list;
    mine = longest p.mine (entries_in p.number l);
  }

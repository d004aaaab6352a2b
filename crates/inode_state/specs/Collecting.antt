-- The open collection without its bytes, compared with the journal's definition.
use Rattle.std.specs.Prelude.{◌≡◌, ℕ, ◌+◌, Bool, true, false, is_none, List, Option, Some, None}
use Rattle.hash_algos.specs.declared.algo.Algo.{Algo}
use Rattle.inode_events.specs.Checks.{Check, last_check, slot_of}
use Rattle.inode_events.specs.Inode.{Inode}
use Rattle.inode_events.specs.Integrity.{Collection, chosen_algo}
use Rattle.inode_events.specs.declared.deed.Deed.{Deed}
use Rattle.inode_events.specs.declared.deed.Deed.TheVariants as deed
use Rattle.inode_events.specs.declared.told.Event.{Event}
use Rattle.inode_events.specs.declared.told.Told.{Told}
use Rattle.inode_events.specs.declared.told.Told.TheVariants as told
use Rattle.inode_state.specs.declared.collecting.Asked.{Asked}
use Rattle.inode_state.specs.declared.collecting.Collecting.{Collecting}

-- a collection without its bytes
pub record Short : Type 0 where
  pub file : ℕ
  pub closing : Bool
  pub algo : Algo
  pub begin : ℕ
  pub pieces : ℕ
  pub complete : Bool

abbrev pub short_of : Collection → Short
short_of c = record {
  file = c.file;
  closing = c.closing;
  algo = c.algo;
  begin = c.begin;
  pieces =
      c.pieces;
  complete = c.complete;
}

-- a collection that no check asked for is that of a close
abbrev pub short_seen : Collecting → Short
short_seen c = record {
  file = c.file;
  closing = is_none c.asked;
  algo = c.algo;
  begin = c.begin;
  pieces = c.pieces;
  complete = c.complete;
}

abbrev pub shortened : Option Collection → Option Short
shortened None = None
shortened (Some c) = Some (short_of c)

abbrev pub shorts_seen : Option Collecting → Option Short
shorts_seen None = None
shorts_seen (Some c) = Some (short_seen c)

-- what was asked for the open collection, if a check asked for it
abbrev pub asked_in : Option Collecting → Option Asked
asked_in None = None
asked_in (Some c) = c.asked

-- the check has the slot and the action that were asked for
pub record IsAsked (check : Check) (a : Asked) : Type 0 where
  pub slot : a.slot ≡ slot_of check.func
  pub action : a.action ≡ check.action

abbrev pub IfAsked : Check → Option Asked → Type 0
IfAsked check None = Unit {0}
IfAsked check (Some a) = IsAsked check a

-- if a take began the collection, it holds what the file's last check asked for
abbrev pub HasAsked : List Event → Option Collecting → Type 0
HasAsked p None = Unit {0}
HasAsked p (Some c) = IfAsked (last_check c.file p) c.asked

-- the algorithm of the collection that the deed begins
abbrev pub Chooses : Inode → Deed → List Event → Algo → Type 0
Chooses inode (deed.Take file) p algo = algo ≡ chosen_algo inode p
Chooses inode (deed.CloseTake file) p algo = algo ≡ inode.settings.hash
Chooses inode _ p algo = Unit {0}

-- what was asked of the file for which the deed begins a collection, or which the deed grants
abbrev pub Asks : Deed → List Event → Option Asked → Type 0
Asks (deed.Take file) p asked = (a : Asked) × ((asked ≡ Some a) × IsAsked (last_check file p) a)
Asks (deed.Finish file) p asked = (a : Asked) × ((asked ≡ Some a) × IsAsked (last_check file p) a)
Asks (deed.CloseTake file) p asked = asked ≡ None
Asks _ p asked = Unit {0}

-- ---- after one more event

abbrev pub pieces_taken : Option Collecting → ℕ
pieces_taken None = 0
pieces_taken (Some c) = c.pieces

abbrev pub begun_seen : ℕ → Option Asked → Algo → ℕ → Option Collecting
begun_seen file asked algo place =
    Some (record {
      file = file;
      asked = asked;
      algo = algo;
      begin = place;
      pieces = 0;
      complete =
          false;
    })

abbrev pub more_seen : Bool → Option Collecting → Option Collecting
more_seen complete None = None
more_seen complete (Some c) = Some (record c { pieces = c.pieces + 1; complete = complete })

abbrev pub collecting_next : Deed → Told → ℕ → Algo → Option Asked → Option Collecting
    → Option Collecting
collecting_next (deed.Take file) told.Begun place algo asked old = begun_seen file asked algo place
collecting_next (deed.CloseTake file) told.Begun place algo asked old = begun_seen file None algo
    place
collecting_next (deed.Chunk file) told.More place algo asked old = more_seen false old
collecting_next (deed.Chunk file) told.Last place algo asked old = more_seen true old
collecting_next (deed.CloseChunk file) told.More place algo asked old = more_seen false old
collecting_next (deed.CloseChunk file) told.Last place algo asked old = more_seen true old
collecting_next (deed.Finish file) (told.Grant grant) place algo asked old = None
collecting_next (deed.CloseFinish file) told.Dropped place algo asked old = None
collecting_next (deed.CloseFinish file) told.LabelledDropped place algo asked old = None
collecting_next _ _ place algo asked old = old

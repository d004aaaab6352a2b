-- The invariants of the fields of a growing list and of a pass.
use Rattle.std.specs.Prelude.{◌≡◌, ◌-◌, [], vec_len}
use Rattle.std.specs.Vec.{vec_capacity}
use Rattle.grow_list.specs.declared.list.Grow.TheInside.{Inside as GrowFields}
use Rattle.grow_list.specs.declared.list.Pass.TheInside.{Inside as PassFields}
use Rattle.grow_list.specs.Views.{listed, held}
use Rattle.grow_list.specs.Meetings.{IsListSeat, IsPassSeat}
use Rattle.grow_list.specs.Shown.{Grown, Passed}

abbrev pub grown_of : {E : Type 0} → GrowFields E → Grown E
grown_of g = record {
  name = g.seat.table_id;
  callers = g.callers;
  spare = vec_capacity g.entries - vec_len g.entries;
  list = g.entries.items;
  numbers = (listed g.seat.me.0).numbers;
}

abbrev pub passed_of : {E : Type 0} → PassFields E → Passed E
passed_of p = record {
  name = p.seat.table_id;
  number = p.number;
  seen = (held p.seat.me.0).seen;
  mine = (held p.seat.me.0).mine;
}

-- the seat is the list's own, and its view has the list's entries
pub record IsWhole {E : Type 0} (g : GrowFields E) : Type 0 where
  pub board : g.seat.table_id ≡ g.table.shared.table_id
  pub words : g.table.shared.table_id.words ≡ 2
  pub seat : IsListSeat g.seat
  pub list : (listed g.seat.me.0).list ≡ g.entries.items
  pub callers : (listed g.seat.me.0).callers ≡ g.callers

-- the seat is the pass's own
pub record IsSeated {E : Type 0} (p : PassFields E) : Type 0 where
  pub seat : IsPassSeat p.seat
  pub slots : p.seat.me.1 ≡ []
  pub number : (held p.seat.me.0).number ≡ p.number

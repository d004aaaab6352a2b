-- What stands for the item of a list where there is none.
use Rattle.std.proofs.Common.{false, None}
use Rattle.report_read.specs.Draft.{no_span}
use Rattle.report_read.specs.Lines.{birth_event}
use Rattle.report_read.specs.words.declared.event.Kind.TheVariants as kind
use Rattle.view_journal.specs.declared.bars.Bar.{Bar}
use Rattle.view_journal.specs.declared.column.Column.{Column}
use Rattle.view_journal.specs.declared.kinds.Freshness.TheVariants as fresh
use Rattle.view_lanes.specs.declared.lanes.Lane.{Lane}
use Rattle.view_lanes.specs.declared.lanes.Seat.{Seat}

abbrev pub no_column : Column
no_column = record {
  place = 0;
  x = 0;
  event = birth_event no_span;
  state = record { readers = 0; writers = 0; execs = 0; freshness = fresh.NotHashed };
  hashing = None;
}

abbrev pub no_lane : Lane
no_lane = record { task = 0; top = 0; row = 0; height = 0 }

abbrev pub no_bar : Bar
no_bar = record { file = 0; kind = kind.Read; task = 0; last = 0; still = false }

abbrev pub no_seat : Seat
no_seat = record { bar = no_bar; y = 0 }

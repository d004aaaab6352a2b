-- The bytes read so far are those that the source gave, and the count never fell.
use Rattle.std.proofs.Common.{◌-◌, ◌<◌, ◌≤◌, length, vec_len}
use Rattle.std.specs.Io.KnownBytes.{Consumes}
use Rattle.ima_io.proofs.whole.read_all.Given as goal

abbrev pub invariant-loop-chunk : goal.invariant-loop-chunk
invariant-loop-chunk g l = record {
  room : 0 < vec_len l.chunk;
  short : length l.bytes.items ≤ l.limit;
  given : Consumes (g.S.Source.left l.initial.source) (g.S.Source.left l.source) l.bytes.items;
  count : g.S.Source.faults l.initial.source ≤ g.S.Source.faults l.source;
}

abbrev pub decreases-loop-chunk : goal.decreases-loop-chunk
decreases-loop-chunk g l = l.limit - length l.bytes.items

-- The pieces passed so far were taken, and the count never fell.
use Rattle.std.proofs.Common.{◌≤◌, take}
use Rattle.std.specs.List.{flat_map}
use Rattle.std.specs.Io.KnownBytes.{Appends}
use Rattle.ima_io.proofs.whole.write_pieces.Given as goal

abbrev pub invariant-loop-piece : goal.invariant-loop-piece
invariant-loop-piece g l = record {
  taken : Appends (g.K.Sink.taken l.initial.sink) (g.K.Sink.taken l.sink)
      (flat_map (λ p. p.items) (take l.piece-index l.piece-items));
  count : g.K.Sink.faults l.initial.sink ≤ g.K.Sink.faults l.sink;
}

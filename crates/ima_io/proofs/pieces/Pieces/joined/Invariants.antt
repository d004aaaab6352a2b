-- The result has the bytes of the pieces passed so far.
use Rattle.std.proofs.Common.{◌≡◌, take}
use Rattle.std.specs.List.{flat_map}
use Rattle.ima_io.proofs.pieces.Pieces.joined.Given as goal

abbrev pub invariant-loop-piece : goal.invariant-loop-piece
invariant-loop-piece l = l.bytes.items ≡ flat_map (λ p. p.items) (take l.piece-index l.piece-items)

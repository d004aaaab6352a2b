-- The wider table has the keys passed so far.
use Rattle.std.proofs.Common.{◌≡◌, ◌*◌, take}
use Rattle.measure_book.proofs.places.Places.reserve.Given as goal

abbrev pub invariant-loop-key : goal.invariant-loop-key
invariant-loop-key l = record {
  buckets : l.wider.buckets ≡ 2 * l.fn.self.buckets;
  keys : l.wider.keys ≡ take l.key-index l.key-items;
}

use Rattle.std.proofs.Common.{◌≡◌, take}
use Rattle.xattr_store.proofs.attrs.Attrs.copy.Given as goal

-- the copy has the pairs passed so far
abbrev pub invariant-loop-pair : goal.invariant-loop-pair
invariant-loop-pair l = l.pairs.items ≡ take l.pair-index l.pair-items

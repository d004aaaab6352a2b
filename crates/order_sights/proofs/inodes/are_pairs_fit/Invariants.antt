-- the pairs so far fit
use Rattle.std.proofs.Common.{All, take}
use Rattle.order_sights.specs.Inodes.{FitsIfThere}
use Rattle.order_sights.proofs.inodes.are_pairs_fit.Given as goal

abbrev pub invariant-loop-pair : goal.invariant-loop-pair
invariant-loop-pair l = All (FitsIfThere l.inode l.a l.b) (take l.pair-index l.pairs)

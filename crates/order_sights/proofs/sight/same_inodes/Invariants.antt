-- the inodes so far are the same
use Rattle.order_sights.specs.Sights.{AreInodesSame}
use Rattle.order_sights.proofs.sight.same_inodes.Given as goal

abbrev pub invariant-loop-i : goal.invariant-loop-i
invariant-loop-i l = AreInodesSame l.pairs l.a l.b l.i

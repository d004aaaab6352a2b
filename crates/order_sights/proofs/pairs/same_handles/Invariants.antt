-- the handles so far are the same, of files that are pairs
use Rattle.order_sights.specs.Pairs.{AreTwo, IsHandlePaired}
use Rattle.order_sights.proofs.pairs.same_handles.Given as goal

abbrev pub invariant-loop-k : goal.invariant-loop-k
invariant-loop-k l = AreTwo (IsHandlePaired l.pairs) l.a l.b l.k

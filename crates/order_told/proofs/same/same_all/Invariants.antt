-- the items so far are the same
use Rattle.std.proofs.Common.{◌≡◌, take}
use Rattle.order_told.proofs.same.same_all.Given as goal

abbrev pub invariant-loop-k : goal.invariant-loop-k
invariant-loop-k g l = take l.k l.a ≡ take l.k l.b

-- the pages so far are the same
use Rattle.std.proofs.Common.{◌≡◌, take}
use Rattle.audit_trail.proofs.taken.are_same.Given as goal

abbrev pub invariant-loop-number : goal.invariant-loop-number
invariant-loop-number l = take l.number l.pages ≡ take l.number l.others

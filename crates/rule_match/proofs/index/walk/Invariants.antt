use Rattle.rule_match.proofs.Steps.{Walks, lines_left}
use Rattle.rule_match.proofs.index.walk.Given as goal

abbrev pub invariant-loop-line : goal.invariant-loop-line
invariant-loop-line l = Walks l.rules l.a l.candidates l.found

abbrev pub decreases-loop-line : goal.decreases-loop-line
decreases-loop-line l = lines_left l.rules l.candidates

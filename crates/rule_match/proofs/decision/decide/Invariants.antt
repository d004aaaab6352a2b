use Rattle.std.proofs.Common.{take}
use Rattle.rule_match.specs.Deciders.{AreDeciders}
use Rattle.rule_match.proofs.decision.decide.Given as goal

abbrev pub invariant-loop-line : goal.invariant-loop-line
invariant-loop-line l = AreDeciders l.a (take l.line l.rules) l.found

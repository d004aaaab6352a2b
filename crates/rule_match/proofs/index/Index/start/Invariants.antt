use Rattle.std.proofs.Common.{◌≡◌, ◌++◌}
use Rattle.rule_match.proofs.index.Index.start.Given as goal

abbrev pub invariant-loop-rule : goal.invariant-loop-rule
invariant-loop-rule l = record {
  split : l.fn.p ≡ l.yielded ++ l.rule-iterator.rest.items;
  index : l.index ≡ l.yielded;
}

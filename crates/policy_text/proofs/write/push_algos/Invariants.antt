use Rattle.std.proofs.Common.{◌≡◌, ◌++◌}
use Rattle.std.specs.List.{join_with_byte}
use Rattle.policy_text.proofs.Commas.{names_to, comma_after}
use Rattle.policy_text.proofs.write.push_algos.Given as goal

abbrev pub invariant-loop-algo : goal.invariant-loop-algo
invariant-loop-algo l = record {
  text : l.out.items ≡ l.initial.out.items ++ join_with_byte 44 (names_to l.algos l.algo-index);
  comma : l.comma ≡ comma_after (names_to l.algos l.algo-index);
}

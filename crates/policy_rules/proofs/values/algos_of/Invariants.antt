use Rattle.std.proofs.Common.{◌≡◌, ◌<◌, ◌==◌, length, drop, true}
use Rattle.std.specs.List.{slice_split}
use Rattle.policy_rules.specs.RuleValue.{has_algos}
use Rattle.policy_rules.specs.Values.{algos_from, algos_of}
use Rattle.policy_rules.proofs.values.algos_of.Given as goal

abbrev pub invariant-loop-name : goal.invariant-loop-name
invariant-loop-name l = record {
  so_far : algos_from l.algos (drop (length l.yielded) (slice_split (λ b. b == 44) l.text))
      ≡ algos_of l.text;
  filled : 0 < length l.yielded → has_algos l.algos ≡ true;
}

use Rattle.std.proofs.Common.{◌≡◌, length, take}
use Rattle.std.specs.Prelude.{vec_capacity, vec_len}
use Rattle.policy_rules.proofs.policy.copy_rules.Given as goal

-- the copy has the rules passed so far, and room for all
abbrev pub invariant-loop-rule : goal.invariant-loop-rule
invariant-loop-rule l = record {
  count : vec_len l.copy ≡ l.rule-index;
  room : vec_capacity l.copy ≡ length l.rules;
  items : l.copy.items ≡ take l.rule-index l.rules;
}

use Rattle.std.proofs.Common.{◌≡◌, ◌++◌, flat_map, take}
use Rattle.policy_rules.specs.Key.{keys}
use Rattle.policy_text.specs.Spelling.{key_text}
use Rattle.policy_text.proofs.write.push_keys.Given as goal

abbrev pub invariant-loop-key : goal.invariant-loop-key
invariant-loop-key l = l.out.items ≡ l.initial.out.items
    ++ flat_map (key_text l.rule) (take l.key-index keys)

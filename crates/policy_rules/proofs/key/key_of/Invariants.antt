use Rattle.std.proofs.Common.{◌≡◌, drop}
use Rattle.policy_rules.specs.Key.{key_among, key_of, keys}
use Rattle.policy_rules.proofs.key.key_of.Given as goal

-- the remaining keys decide
abbrev pub invariant-loop-key : goal.invariant-loop-key
invariant-loop-key l = key_among (drop l.key-index keys) l.token ≡ key_of l.token

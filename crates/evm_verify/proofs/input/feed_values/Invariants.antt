use Rattle.std.proofs.Common.{List, ℕ, ◌++◌, take}
use Rattle.hmac_core.specs.Hmac.{Holds}
use Rattle.evm_verify.specs.Input.{values_under}
use Rattle.evm_verify.proofs.input.feed_values.Given as goal

-- the values of the names passed so far were fed
abbrev pub invariant-loop-name : goal.invariant-loop-name
invariant-loop-name l =
    (key m : List ℕ) → Holds l.initial.state key m
    → Holds l.state key (m ++ values_under (take l.name-index l.names) l.attrs)

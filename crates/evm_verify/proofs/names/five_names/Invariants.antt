use Rattle.std.proofs.Common.{◌≡◌, take}
use Rattle.evm_verify.specs.Input.{five_names}
use Rattle.evm_verify.proofs.names.five_names.Given as goal

-- the result has the names passed so far
abbrev pub invariant-loop-name : goal.invariant-loop-name
invariant-loop-name l = l.names.items ≡ take l.name-index five_names

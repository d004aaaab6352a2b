use Rattle.std.proofs.Common.{◌≡◌, drop}
use Rattle.evm_verify.specs.Input.{any_present}
use Rattle.evm_verify.proofs.names.any_present_after.Given as goal

-- none of the names so far is present
abbrev pub invariant-loop-name : goal.invariant-loop-name
invariant-loop-name l =
    any_present (drop l.name-index l.names) l.attrs ≡ any_present l.names l.attrs

use Rattle.std.proofs.Common.{◌≡◌, ◌++◌, take}
use Rattle.evm_verify.proofs.names.append.Given as goal

-- the names passed so far are appended to those that were there
abbrev pub invariant-loop-name : goal.invariant-loop-name
invariant-loop-name l = l.names.items ≡ l.initial.names.items ++ take l.name-index l.more

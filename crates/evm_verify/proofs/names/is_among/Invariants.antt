use Rattle.std.proofs.Common.{◌≡◌, drop}
use Rattle.std.specs.List.{list_any}
use Rattle.std.specs.Str.{bytes_eq}
use Rattle.evm_verify.proofs.names.is_among.Given as goal

-- the name is none of those so far
abbrev pub invariant-loop-other : goal.invariant-loop-other
invariant-loop-other l =
    list_any (bytes_eq l.name) (drop l.other-index l.names)
    ≡ list_any (bytes_eq l.name) l.names

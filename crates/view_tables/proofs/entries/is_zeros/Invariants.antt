use Rattle.std.proofs.Common.{◌≡◌, drop}
use Rattle.view_tables.specs.Entries.{is_zeros}
use Rattle.view_tables.proofs.entries.is_zeros.Given as goal

-- the digits so far are zeros
abbrev pub invariant-loop-digit : goal.invariant-loop-digit
invariant-loop-digit l = is_zeros (drop l.digit-index l.digits) ≡ is_zeros l.digits

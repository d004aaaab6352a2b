use Rattle.std.proofs.Common.{◌≡◌, ◌+◌, drop}
use Rattle.view_journal.specs.Frame.{first_free}
use Rattle.view_journal.proofs.frame.first_free.Given as goal

-- the rows before this one aren't free
abbrev pub invariant-loop-row : goal.invariant-loop-row
invariant-loop-row l = l.row + first_free l.from (drop l.row l.ends) ≡ first_free l.from l.ends

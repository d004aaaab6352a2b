use Rattle.std.proofs.Common.{◌≡◌, drop}
use Rattle.view_page.specs.Pieces.{outcome_in}
use Rattle.view_page.proofs.pieces.outcome_in.Given as goal

-- the outcome is in the rest of the line
abbrev pub invariant-loop-at : goal.invariant-loop-at
invariant-loop-at l = outcome_in (drop l.at l.line) ≡ outcome_in l.line

use Rattle.std.proofs.Common.{rules, ◌∙◌}
use Rattle.std.proofs.lemmas.List.{take_rest}
use native.Mathlib.Numerals.{unary_clauses}
use Rattle.view_page.proofs.Outcomes.{not_here}
use Rattle.view_page.proofs.pieces.outcome_in.Goals as goal

pub loop-at-preserved : goal.loop-at-preserved
loop-at-preserved c =
    simp unary_clauses (not_here c.loop-at.at c.args.line.now (search rules)
    (rw (take_rest c.args.line.now) at c.in_default.ensures.cases) ∙ c.loop-at.invariant)

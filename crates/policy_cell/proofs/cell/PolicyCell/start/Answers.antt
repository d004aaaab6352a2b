use Rattle.std.proofs.Common.{length, ap, arith, ◌∙◌}
use Rattle.std.proofs.lemmas.List.{take_all}
use Rattle.policy_cell.proofs.Rules.{begun}
use Rattle.policy_cell.proofs.cell.PolicyCell.start.Goals as goal

pub invariant_of-cell : goal.invariant_of-cell
invariant_of-cell c =
    begun _ (ap length c.rules-base.ensures.rules) c.in_ok-appended.ensures.list.0

pub returns-clause-base : goal.returns-clause-base
returns-clause-base c =
    take_all (length c.rules-base.result.now) c.in_ok-index.index
    (omega (arith, ap length c.rules-base.ensures.rules))
    ∙ c.in_ok-index.ensures

pub returns-clause-passes : goal.returns-clause-passes
returns-clause-passes c = c.in_ok-appended.ensures.passes

pub returns-clause-each : goal.returns-clause-each
returns-clause-each c = c.in_ok-appended.ensures.each

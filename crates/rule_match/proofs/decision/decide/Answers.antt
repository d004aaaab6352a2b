use Rattle.std.proofs.Common.{◌+◌, sym, ap, ◌∙◌}
use Rattle.rule_match.specs.Decision.{decide_of}
use Rattle.rule_match.proofs.Steps.{found_all, found_end, found_next}
use Rattle.rule_match.proofs.Walks.{decided_by}
use Rattle.rule_match.proofs.decision.decide.Goals as goal

pub loop-line-preserved : goal.loop-line-preserved
loop-line-preserved c =
    found_next c.rules-rules.result.now c.args.a.now c.loop-line.line c.index-rules-line.result
    c.loop-line.found c.with-found.result c.loop-line-test.true c.index-rules-line.is
    c.with-found.ensures c.loop-line.invariant

pub returns : goal.returns
returns c =
    c.action-2.ensures
    ∙ decided_by c.args.a.now c.rules-rules.result.now c.loop-line.found
    (found_end c.rules-rules.result.now c.args.a.now c.loop-line.line c.loop-line.found
    c.loop-line-test.false c.loop-line.invariant)
    ∙ ap (λ rules. decide_of rules c.args.a.now) c.rules-rules.ensures.rules

pub returns-then-is_complete : goal.returns-then-is_complete
returns-then-is_complete c =
    let found = found_next c.rules-rules.result.now c.args.a.now c.loop-line.line
    c.index-rules-line.result c.loop-line.found c.with-found.result c.loop-line-test.true
    c.index-rules-line.is c.with-found.ensures c.loop-line.invariant in
    c.action.ensures
    ∙ decided_by c.args.a.now c.rules-rules.result.now c.with-found.result
    (found_all c.rules-rules.result.now c.args.a.now (c.loop-line.line + 1) c.with-found.result
    (sym c.if-is_complete.ensures) found)
    ∙ ap (λ rules. decide_of rules c.args.a.now) c.rules-rules.ensures.rules

use Rattle.std.proofs.Common.{◌≡◌, take, ap, ◌∙◌}
use Rattle.std.proofs.lemmas.List.{take_all}
use Rattle.std.proofs.lemmas.Result.{err_from_is_err_and}
use Rattle.policy_text.specs.Grammar.{policy_of}
use Rattle.policy_text.specs.Spelling.{policy_text}
use Rattle.policy_text.proofs.PolicyAgain.{policy_again, rules_more, text_more}
use Rattle.policy_text.proofs.write.print.Goals as goal

pub loop-rule-preserved : goal.loop-rule-preserved
loop-rule-preserved c =
    let items = c.rules-rule-items.result.now in
    let i = c.loop-rule.rule-index in
    let rule = c.rule-item.result in
    record {
      text = text_more items i rule c.loop-rule.text.items c.push_line.new.text.items
          c.loop-rule-test.true c.rule-item.is c.loop-rule.invariant.text
          c.in_ok-push_line.ensures.text;
      rules = rules_more items i rule c.loop-rule-test.true c.rule-item.is
          c.loop-rule.invariant.rules c.in_ok-push_line.ensures.rule;
    }

pub returns-in_err-push_line-clause-text : goal.returns-in_err-push_line-clause-text
returns-in_err-push_line-clause-text c =
    let p = err_from_is_err_and c.from_residual.result c.from_residual.ensures.1 in
    rw (p.1) tt

pub returns-in_err-push_line-clause-again : goal.returns-in_err-push_line-clause-again
returns-in_err-push_line-clause-again c =
    let p = err_from_is_err_and c.from_residual.result c.from_residual.ensures.1 in
    rw (p.1) tt

pub returns-clause-text : goal.returns-clause-text
returns-clause-text c =
    let items = c.rules-rule-items.result.now in
    let all : take c.loop-rule.rule-index items ≡ items =
    take_all c.loop-rule.rule-index items c.loop-rule-test.false in
    c.loop-rule.invariant.text ∙ ap policy_text (all ∙ c.rules-rule-items.ensures.rules)

pub returns-clause-again : goal.returns-clause-again
returns-clause-again c =
    let items = c.rules-rule-items.result.now in
    let all : take c.loop-rule.rule-index items ≡ items =
    take_all c.loop-rule.rule-index items c.loop-rule-test.false in
    let same = all ∙ c.rules-rule-items.ensures.rules in
    ap policy_of (c.loop-rule.invariant.text ∙ ap policy_text same)
    ∙ policy_again c.args.policy.now (rw same at c.loop-rule.invariant.rules)
    c.rules-rule-items.ensures.limit

use Rattle.std.proofs.Common.{sym}
use Rattle.std.proofs.lemmas.List.{append-nil}
use Rattle.std.proofs.lemmas.Result.{err_from_is_err_and}
use Rattle.call_lines.specs.Lines.{line_text}
use Rattle.call_lines.specs.Rules.{IsReadRule}
use Rattle.script_spelling.specs.Spelling.{rule_line}
use Rattle.script_spelling.proofs.Pieces.{all_done, all_more, text_all, text_more}
use Rattle.script_print.proofs.calls.push_rules.Goals as goal

pub loop-rule-init : goal.loop-rule-init
loop-rule-init c = record { text = sym (append-nil c.args.out.now.items); read = tt }

pub loop-rule-preserved : goal.loop-rule-preserved
loop-rule-preserved c = record {
  text = text_more (λ r. line_text (rule_line r)) c.args.rules.now c.loop-rule.rule-index
      c.rule-item.result c.args.out.now.items c.loop-rule.out.items c.push_rule.new.out.items
      c.loop-rule-test.true c.rule-item.is c.loop-rule.invariant.text
      c.in_ok-push_rule.ensures.text;
  read = all_more IsReadRule c.args.rules.now c.loop-rule.rule-index c.rule-item.result
      c.loop-rule-test.true c.rule-item.is c.loop-rule.invariant.read
      c.in_ok-push_rule.ensures.rule;
}

-- without an answer nothing is said of the rules
pub returns-in_err-push_rule-clause-text : goal.returns-in_err-push_rule-clause-text
returns-in_err-push_rule-clause-text c =
    let p = err_from_is_err_and c.from_residual.result c.from_residual.ensures.1 in
    rw (p.1) tt

pub returns-in_err-push_rule-clause-rules : goal.returns-in_err-push_rule-clause-rules
returns-in_err-push_rule-clause-rules c =
    let p = err_from_is_err_and c.from_residual.result c.from_residual.ensures.1 in
    rw (p.1) tt

pub returns-clause-text : goal.returns-clause-text
returns-clause-text c =
    text_all (λ r. line_text (rule_line r)) c.args.rules.now c.loop-rule.rule-index
    c.args.out.now.items c.loop-rule.out.items c.loop-rule-test.false c.loop-rule.invariant.text

pub returns-clause-rules : goal.returns-clause-rules
returns-clause-rules c =
    all_done IsReadRule c.args.rules.now c.loop-rule.rule-index c.loop-rule-test.false
    c.loop-rule.invariant.read

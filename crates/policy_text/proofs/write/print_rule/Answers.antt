use Rattle.policy_text.proofs.RulesAgain.{rule_again, rule_on_one_line, words_again, words_visible}
use Rattle.policy_text.proofs.write.print_rule.Goals as goal

pub returns-in-Ok-clause-again : goal.returns-in-Ok-clause-again
returns-in-Ok-clause-again c = rule_again c.args.rule.now c.push_rule.ensures.rule

pub returns-in-Ok-clause-words : goal.returns-in-Ok-clause-words
returns-in-Ok-clause-words c = words_again c.args.rule.now c.push_rule.ensures.rule

pub returns-in-Ok-clause-visible : goal.returns-in-Ok-clause-visible
returns-in-Ok-clause-visible c = words_visible c.args.rule.now c.push_rule.ensures.rule

pub returns-in-Ok-clause-one_line : goal.returns-in-Ok-clause-one_line
returns-in-Ok-clause-one_line c = rule_on_one_line c.args.rule.now c.push_rule.ensures.rule

pub returns-clause-again : goal.returns-clause-again
returns-clause-again c = rule_again c.args.rule.now c.push_rule.ensures.rule

pub returns-clause-words : goal.returns-clause-words
returns-clause-words c = words_again c.args.rule.now c.push_rule.ensures.rule

pub returns-clause-visible : goal.returns-clause-visible
returns-clause-visible c = words_visible c.args.rule.now c.push_rule.ensures.rule

pub returns-clause-one_line : goal.returns-clause-one_line
returns-clause-one_line c = rule_on_one_line c.args.rule.now c.push_rule.ensures.rule

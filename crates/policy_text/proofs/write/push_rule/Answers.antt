use Rattle.std.proofs.Common.{◌≡◌, ◌++◌, ◌∙◌}
use Rattle.policy_rules.specs.ValueTexts.{act_word}
use Rattle.policy_text.proofs.RulesAgain.{rule_put}
use Rattle.policy_text.proofs.write.push_rule.Goals as goal

pub returns-clause-text : goal.returns-clause-text
returns-clause-text c =
    let word : c.as_bytes.result.now ≡ act_word c.args.rule.now.act =
    rw (← c.rule.view_is) (c.as_bytes.ensures.value ∙ c.word.ensures) in
    let first : c.write_all.new.self.items ≡ c.args.out.now.items ++ act_word c.args.rule.now.act =
    rw word at c.in_ok-write_all.ensures.bytes in
    rule_put c.args.rule.now c.args.out.now.items c.write_all.new.self.items _ first
    c.in_ok-push_keys.ensures

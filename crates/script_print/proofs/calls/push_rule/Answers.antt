use Rattle.std.specs.Prelude.{codes}
use Rattle.script_spelling.proofs.Pieces.{rule_put}
use Rattle.script_print.proofs.calls.push_rule.Goals as goal

pub returns-clause-text : goal.returns-clause-text
returns-clause-text c =
    rule_put c.args.out.now.items c.extend_from_slice.new.self.items c.print_rule.new.out.items
    c.push.new.self.items (codes "rule") c.args.rule.now c.in_ok-extend_from_slice.ensures.items
    c.in_ok-print_rule.ensures.text c.in_ok-push.ensures.items

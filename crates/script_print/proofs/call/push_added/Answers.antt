use Rattle.std.specs.Prelude.{codes}
use Rattle.std.proofs.lemmas.Result.{on_ok_weaker}
use Rattle.call_lines.proofs.Rules.{added_put}
use Rattle.script_print.proofs.call.push_added.Goals as goal

pub returns-clause-text : goal.returns-clause-text
returns-clause-text c =
    on_ok_weaker c.print_rule.result
    (added_put c.args.out.now.items c.extend_from_slice.new.self.items c.print_rule.new.out.items
    (codes "addrule") c.args.rule.now c.in_ok-extend_from_slice.ensures.items)
    c.print_rule.ensures.text

use Rattle.std.proofs.Common.{arith, codes}
use Rattle.report_events.proofs.Numerals.{numeral_of_wide}
use Rattle.report_text.proofs.Pushed.{rule_pushed}
use Rattle.report_events.proofs.Joins.{last_pushed}
use Rattle.report_text.proofs.lists.push_rule.Goals as goal

pub returns : goal.returns
returns c =
    last_pushed c.extend_from_slice-5.result c.print_rule.new.out.items (codes "\n")
    c.extend_from_slice-5.new.self.items c.extend_from_slice-5.ensures.items
    (λ pushed. rw (
      pushed,
      c.in_ok-print_rule.ensures.text,
      c.in_ok-extend_from_slice-4.ensures.items,
      c.in_ok-push_who.ensures,
      c.in_ok-extend_from_slice-3.ensures.items,
      c.in_ok-extend_from_slice-2.ensures.items,
      c.as_bytes.ensures.value,
      c.format.ensures.text,
      numeral_of_wide c.args.place (omega arith),
      c.in_ok-extend_from_slice.ensures.items,
    )
    (rule_pushed c.args.out.now.items c.args.place c.args.entry.now))

use Rattle.std.proofs.Common.{◌≡◌, length, ap, codes}
use Rattle.report_events.specs.Numerals.{numeral}
use Rattle.std.specs.List.{count_by}
use Rattle.run_model.specs.EndedValue.{EndedValue}
use Rattle.report_text.specs.Report.{ending_word}
use Rattle.report_text.proofs.Pushed.{head_pushed}
use Rattle.report_events.proofs.Joins.{last_pushed}
use Rattle.report_text.proofs.print.push_head.Goals as goal

pub returns : goal.returns
returns c =
    let e = c.args.e.now in
    let list_is : c.e.inside.list.items ≡ e.list = ap (λ (v : EndedValue). v.list) c.e.view_is in
    last_pushed c.extend_from_slice-3.result c.push_numbered-2.new.out.items (codes "\n")
    c.extend_from_slice-3.new.self.items c.extend_from_slice-3.ensures.items
    (λ pushed. rw (
      pushed,
      c.in_ok-push_numbered-2.ensures,
      c.in_ok-push_numbered.ensures,
      c.in_ok-extend_from_slice-2.ensures.items,
      c.as_bytes.ensures.value,
      c.in_ok-extend_from_slice.ensures.items,
      c.ending_word.ensures,
      c.violations.ensures,
      c.as_slice-list.ensures.value,
      list_is,
    )
    (head_pushed c.args.out.now.items (ending_word e) (numeral (length e.list))
    (numeral (count_by (λ x. x.violation) e.list))))

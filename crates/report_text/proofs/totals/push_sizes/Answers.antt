use Rattle.std.proofs.Common.{◌≡◌, length, ap, codes}
use Rattle.report_events.specs.Numerals.{numeral}
use Rattle.std.specs.List.{count_by}
use Rattle.run_model.specs.EndedValue.{EndedValue}
use Rattle.report_text.proofs.Summed.{sizes_pushed}
use Rattle.report_events.proofs.Joins.{last_pushed}
use Rattle.report_text.proofs.totals.push_sizes.Goals as goal

pub returns : goal.returns
returns c =
    let e = c.args.e.now in
    let list_is : c.e.inside.list.items ≡ e.list = ap (λ (v : EndedValue). v.list) c.e.view_is in
    last_pushed c.extend_from_slice.result c.push_numbered-4.new.out.items (codes "\n")
    c.extend_from_slice.new.self.items c.extend_from_slice.ensures.items
    (λ pushed. rw (
      pushed,
      c.in_ok-push_numbered-4.ensures,
      c.in_ok-push_numbered-3.ensures,
      c.in_ok-push_numbered-2.ensures,
      c.in_ok-push_numbered.ensures,
      c.from.ensures,
      c.violations.ensures,
      c.as_slice-list.ensures.value,
      list_is,
    )
    (sizes_pushed c.args.out.now.items (numeral c.args.number) (numeral c.args.script)
    (numeral (length e.list)) (numeral (count_by (λ x. x.violation) e.list))))

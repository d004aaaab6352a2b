use Rattle.std.proofs.Common.{◌≡◌, true, ap}
use Rattle.run_model.specs.EndedValue.{EndedValue}
use Rattle.report_text.specs.Report.{pcr_lines_at}
use Rattle.report_text.specs.Summary.{count_lines, size_lines}
use Rattle.report_text.proofs.Summed.{summary_pushed}
use Rattle.report_text.proofs.totals.summary.Goals as goal

pub returns : goal.returns
returns c =
    let e = c.args.e.now in
    let banks_are : c.e.inside.banks ≡ e.banks = ap (λ (v : EndedValue). v.banks) c.e.view_is in
    rw (
      c.in_ok-push_values.ensures,
      c.in_ok-push_counts.ensures,
      c.in_ok-push_sizes.ensures,
      c.new-out.ensures.items,
      banks_are,
    )
    (summary_pushed (size_lines c.args.number c.args.script e) (count_lines e)
    (pcr_lines_at e.banks 10 true))

use Rattle.std.proofs.Common.{ap}
use Rattle.std.proofs.lemmas.Result.{on_ok_weaker}
use Rattle.view_page.specs.journals.reading.Report.{ReportValue}
use Rattle.view_page.proofs.Joined.{as_parts, ◌▹◌}
use Rattle.view_tables.proofs.frame.push_tiles.Goals as goal

pub returns : goal.returns
returns c =
    on_ok_weaker c.push_parts-2.result
    (λ pushed. as_parts
    (c.in_ok-push_parts.ensures ▹ c.in_ok-push_run.ensures ▹ c.in_ok-push_counts.ensures
    ▹ pushed)
    (cc (ap (λ (r : ReportValue). r.run) c.report.view_is)))
    c.push_parts-2.ensures

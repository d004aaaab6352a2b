use Rattle.std.proofs.Common.{List, ap, ◌∙◌}
use Rattle.std.proofs.lemmas.Result.{on_ok_weaker}
use Rattle.view_page.specs.journals.reading.Report.{InodeValue, ReportValue}
use Rattle.view_pages.specs.Page.{tables}
use Rattle.view_plan.specs.Plan.{planned}
use Rattle.view_plan.specs.declared.plan.Shown.{Shown}
use Rattle.view_page.proofs.Joined.{as_parts}
use Rattle.view_pages.proofs.pair.push_side_tables.Goals as goal

pub returns : goal.returns
returns c =
    on_ok_weaker c.push_tables.result
    (λ pushed. as_parts pushed
    (ap (λ (ss : List Shown). tables c.args.text.now c.args.side ss c.args.report.now)
    (c.deref-2.ensures.value ∙ (c.in_ok-shown.ensures
    ∙ ap (λ (is : List InodeValue). planned is c.args.numbers.now)
    (c.deref.ensures.value ∙ ap (λ (r : ReportValue). r.inodes) c.report.view_is)))))
    c.push_tables.ensures

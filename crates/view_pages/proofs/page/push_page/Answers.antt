use Rattle.std.proofs.Common.{ℕ, List, ap, ◌∙◌}
use Rattle.std.proofs.lemmas.Result.{on_ok_weaker}
use Rattle.view_page.specs.journals.reading.Report.{ReportValue}
use Rattle.view_plan.specs.Order.{order}
use Rattle.view_pages.specs.Page.{ordered_parts}
use Rattle.view_page.proofs.Joined.{as_parts}
use Rattle.view_pages.proofs.page.push_page.Goals as goal

pub returns : goal.returns
returns c =
    on_ok_weaker c.push_ordered.result
    (λ pushed. as_parts pushed
    (ap (λ (ns : List ℕ). ordered_parts c.args.text.now ns c.args.report.now)
    (c.deref-2.ensures.value ∙ (c.in_ok-order.ensures
    ∙ ap order (c.deref.ensures.value ∙ ap (λ (r : ReportValue). r.inodes) c.report.view_is)))))
    c.push_ordered.ensures

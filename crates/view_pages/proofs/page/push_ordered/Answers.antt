use Rattle.std.proofs.Common.{ℕ, List, ap, take, ◌∙◌}
use Rattle.std.proofs.lemmas.Result.{on_ok_weaker}
use Rattle.view_page.specs.journals.reading.Report.{InodeValue, ReportValue}
use Rattle.view_pages.specs.Page.{planned_parts}
use Rattle.view_plan.specs.Plan.{most_sections, planned}
use Rattle.view_plan.specs.declared.plan.Shown.{Shown}
use Rattle.view_page.proofs.Joined.{as_parts}
use Rattle.view_pages.proofs.page.push_ordered.Goals as goal

pub returns : goal.returns
returns c =
    on_ok_weaker c.push_planned.result
    (λ pushed. as_parts pushed
    (ap (λ (ss : List Shown). planned_parts c.args.text.now ss c.first_of-first.result.now
    c.beyond.result c.args.report.now)
    (c.deref-2.ensures.value ∙ (c.in_ok-shown.ensures
    ∙ ap (λ (is : List InodeValue). planned is c.first_of-first.result.now)
    (c.deref.ensures.value ∙ ap (λ (r : ReportValue). r.inodes) c.report.view_is)))
    ∙ (ap (λ (ns : List ℕ). planned_parts c.args.text.now
    (planned c.args.report.now.inodes ns) ns c.beyond.result c.args.report.now)
    c.first_of-first.ensures
    ∙ ap (λ (n : ℕ). planned_parts c.args.text.now
    (planned c.args.report.now.inodes (take most_sections c.args.order.now))
    (take most_sections c.args.order.now) n c.args.report.now) c.beyond.ensures)))
    c.push_planned.ensures

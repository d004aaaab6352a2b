use Rattle.std.proofs.Common.{List, ap, ◌∙◌}
use Rattle.std.proofs.lemmas.Result.{on_ok_weaker}
use Rattle.view_page.specs.declared.own.Side.TheVariants as side
use Rattle.view_page.specs.journals.reading.Report.{InodeValue, ReportValue}
use Rattle.view_pages.specs.Sections.{sections}
use Rattle.view_page.proofs.Joined.{as_parts, ◌▹◌}
use Rattle.view_pages.proofs.page.push_planned.Goals as goal

pub returns : goal.returns
returns c =
    on_ok_weaker c.push_parts.result
    (λ pushed. c.in_ok-push_head.ensures ▹ c.in_ok-push_tiles.ensures
    ▹ as_parts c.in_ok-push_sections.ensures
    (ap (λ (is : List InodeValue).
    sections c.args.text.now side.Alone c.args.shown.now is c.args.order.now)
    (c.deref.ensures.value ∙ ap (λ (r : ReportValue). r.inodes) c.report.view_is))
    ▹ c.in_ok-push_more.ensures ▹ c.in_ok-push_tables.ensures ▹ pushed)
    c.push_parts.ensures

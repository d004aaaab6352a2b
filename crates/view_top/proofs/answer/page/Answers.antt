-- The page is that of the one report.
use Rattle.std.proofs.Common.{◌≡◌, ◌≤◌, ◌++◌, ℕ, List, [], ◌∷◌, length, get_or, arith, ap, sym, ◌∙◌}
use Rattle.view_pages.specs.Page.{report_parts}
use Rattle.view_pages.specs.drawn.page.Parts.{page_of}
use Rattle.view_pages.specs.journals.reading.Report.{ReportValue}
use Rattle.view_top.specs.Answer.{Page, page}
use Rattle.view_top.proofs.answer.page.Goals as goal

-- the page of reports is that of the first one
page_is : (text : List ℕ) (rs : List ReportValue) (r : ReportValue) (items : List ℕ)
    → 1 ≤ length rs → r ≡ get_or rs 0 r → items ≡ page_of text (report_parts text r)
    → page text rs ≡ Page items
page_is text [] r items some is same = absurd (omega (arith, some))
page_is text (x ∷ rs) r items some is same =
    ap (λ (l : List ℕ). Page l)
    (ap (λ (v : ReportValue). page_of text (report_parts text v)) (sym is) ∙ sym same)

pub returns-clause-answer : goal.returns-clause-answer
returns-clause-answer c =
    let parts = report_parts c.args.text.now c.report-item.result in
    page_is c.args.text.now c.args.reports.now c.report-item.result c.push_page.new.out.items
    c.in-len1-up.len_at_least c.report-item.is
    (c.in_ok-push_page.ensures.is
    ∙ ap (λ (out : List ℕ). out ++ page_of c.args.text.now parts) c.new-out.ensures.items)

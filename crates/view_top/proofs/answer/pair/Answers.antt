-- The page is that of the two reports.
use Rattle.std.proofs.Common.{◌≡◌, ◌≤◌, ◌++◌, ℕ, List, [], ◌∷◌, length, get_or, arith, ap, sym, ◌∙◌}
use Rattle.view_pages.specs.Pair.{pair_parts}
use Rattle.view_pages.specs.drawn.page.Parts.{page_of}
use Rattle.view_pages.specs.journals.reading.Report.{ReportValue}
use Rattle.view_top.specs.Answer.{Page, pair}
use Rattle.view_top.proofs.answer.pair.Goals as goal

-- the page of a pair of reports is that of the first two
pair_is : (text : List ℕ) (rs : List ReportValue) (r s : ReportValue) (items : List ℕ)
    → 2 ≤ length rs → r ≡ get_or rs 0 r → s ≡ get_or rs 1 s
    → items ≡ page_of text (pair_parts text r s) → pair text rs ≡ Page items
pair_is text [] r s items two first second same = absurd (omega (arith, two))
pair_is text (x ∷ []) r s items two first second same = absurd (omega (arith, two))
pair_is text (x ∷ y ∷ rs) r s items two first second same =
    ap (λ (l : List ℕ). Page l)
    (ap (λ (v : ReportValue). page_of text (pair_parts text v y)) (sym first)
    ∙ ap (λ (v : ReportValue). page_of text (pair_parts text r v)) (sym second) ∙ sym same)

pub returns-clause-answer : goal.returns-clause-answer
returns-clause-answer c =
    let parts = pair_parts c.args.text.now c.first-item.result c.second-item.result in
    pair_is c.args.text.now c.args.reports.now c.first-item.result c.second-item.result
    c.push_pair.new.out.items c.in-len2-up.len_at_least c.first-item.is c.second-item.is
    (c.in_ok-push_pair.ensures.is
    ∙ ap (λ (out : List ℕ). out ++ page_of c.args.text.now parts) c.new-out.ensures.items)

use Rattle.std.proofs.lemmas.Result.{on_ok_weaker}
use Rattle.view_page.proofs.Joined.{as_parts}
use Rattle.view_pages.proofs.section.push_marked.Goals as goal

pub returns : goal.returns
returns c =
    on_ok_weaker c.push_marked_by.result
    (λ pushed. as_parts pushed
    (cc (c.count-violations.ensures, c.count-marked.ensures, c.saturating_sub-denials.ensures)))
    c.push_marked_by.ensures

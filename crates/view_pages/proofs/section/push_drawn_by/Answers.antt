use Rattle.std.proofs.lemmas.Result.{on_ok_weaker}
use Rattle.view_page.proofs.Joined.{◌▹◌}
use Rattle.view_pages.proofs.section.push_drawn_by.Goals as goal

pub returns : goal.returns
returns c =
    on_ok_weaker c.push_sentences.result
    (λ pushed. c.in_ok-push_overview_if.ensures ▹ c.in_ok-push_windows.ensures
    ▹ pushed)
    c.push_sentences.ensures

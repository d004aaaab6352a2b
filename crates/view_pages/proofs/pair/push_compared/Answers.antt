use Rattle.std.proofs.Common.{ℕ, List, ap, ◌∙◌}
use Rattle.std.proofs.lemmas.Result.{on_ok_weaker}
use Rattle.view_pages.specs.Section.{drawing}
use Rattle.view_page.proofs.Joined.{as_parts, ◌▹◌}
use Rattle.view_pages.proofs.pair.push_compared.Goals as goal

pub returns : goal.returns
returns c =
    on_ok_weaker c.push_sentences.result
    (λ pushed. as_parts c.in_ok-push_drawing.ensures
    (ap (λ (places : List ℕ). drawing c.args.view c.args.mine.now c.args.windows.now places)
    (c.deref.ensures.value ∙ c.in_ok-differs.ensures))
    ▹ pushed)
    c.push_sentences.ensures

use Rattle.std.proofs.Common.{ℕ, ap}
use Rattle.std.proofs.lemmas.Result.{on_ok_weaker}
use Rattle.view_page.specs.Parts.{more}
use Rattle.view_page.specs.declared.part.Part.TheVariants as part
use Rattle.view_page.specs.declared.told.Told.TheVariants as told
use Rattle.view_page.proofs.Joined.{as_parts, ◌▹◌}
use Rattle.view_sentences.proofs.sentences.push_list_of.Goals as goal

pub returns : goal.returns
returns c =
    on_ok_weaker c.push_parts-2.result
    (λ pushed. c.in_ok-push_parts.ensures ▹ c.in_ok-push_each.ensures
    ▹ as_parts c.in_ok-push_more.ensures
    (ap (λ (n : ℕ). more (part.Told told.MoreItems) n (part.Told told.MoreItemsEnd))
    c.saturating_sub.ensures)
    ▹ pushed)
    c.push_parts-2.ensures

use Rattle.std.proofs.Common.{Bool, [], ◌∷◌, ap}
use Rattle.std.proofs.lemmas.Result.{on_ok_weaker}
use Rattle.view_sentences.specs.Sentences.{event_link}
use Rattle.view_page.specs.declared.part.Part.TheVariants as part
use Rattle.view_page.specs.declared.told.Told.{Told}
use Rattle.view_page.proofs.Joined.{as_parts, ◌▹◌}
use Rattle.view_sentences.proofs.sentences.push_sentence_by.Goals as goal

pub returns : goal.returns
returns c =
    on_ok_weaker c.push_parts-3.result
    (λ pushed. as_parts c.in_ok-push_parts.ensures
    (ap (λ (t : Told). part.Told t ∷ []) c.colour_of.ensures)
    ▹ as_parts c.in_ok-push_event_link.ensures
    (ap (λ (b : Bool). event_link b c.args.view c.args.place) c.is_drawn-drawn.ensures)
    ▹ c.in_ok-push_parts-2.ensures ▹ c.in_ok-push_said.ensures ▹ pushed)
    c.push_parts-3.ensures

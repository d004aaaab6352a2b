use Rattle.std.proofs.Common.{ℕ, List, take, ap, ◌∙◌}
use Rattle.std.proofs.lemmas.Result.{on_ok_weaker}
use Rattle.view_sentences.specs.Sentences.{list_by, told_places}
use Rattle.view_page.proofs.Joined.{as_parts}
use Rattle.view_sentences.proofs.sentences.push_sentences.Goals as goal

pub returns : goal.returns
returns c =
    on_ok_weaker c.push_list_by.result
    (λ pushed. as_parts pushed
    (ap (λ (places : List ℕ). list_by c.args.text.now c.args.view c.args.journal.now
    c.args.windows.now places c.in_ok-tales.tales.n)
    (c.deref.ensures.value ∙ c.in_ok-tales.ensures.places)
    ∙ ap (λ (n : ℕ). list_by c.args.text.now c.args.view c.args.journal.now c.args.windows.now
    (take 20 (told_places c.args.journal.now)) n) c.in_ok-tales.ensures.count))
    c.push_list_by.ensures

use Rattle.std.proofs.Common.{List, ap, ◌∙◌, arith}
use Rattle.std.specs.Prelude.{reverse}
use Rattle.std.proofs.lemmas.List.{take_all}
use Rattle.view_page.specs.journals.reading.words.declared.event.Event.{Event}
use Rattle.view_sentences.specs.Sentences.{last_write}
use Rattle.view_sentences.proofs.HoldersSteps.{write_next}
use Rattle.view_page.proofs.about_journals.WalkPlaces.{no_event}
use Rattle.view_sentences.proofs.said.last_write.Goals as goal

pub loop-place-preserved : goal.loop-place-preserved
loop-place-preserved c =
    write_next c.args.journal.now c.loop-place.place no_event c.loop-place.last
    c.later-last.result c.is_write.result c.loop-place-test.true c.is_write.ensures
    c.loop-place.invariant c.later-last.ensures

pub returns : goal.returns
returns c =
    c.loop-place.invariant
    ∙ ap (λ (es : List Event). last_write (reverse es))
    (take_all c.loop-place.place c.args.journal.now (omega arith))

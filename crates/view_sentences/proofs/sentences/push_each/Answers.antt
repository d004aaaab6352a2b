use Rattle.std.proofs.Common.{ap}
use Rattle.std.specs.List.{flat_map}
use Rattle.std.proofs.lemmas.List.{take_all}
use Rattle.view_sentences.specs.Sentences.{sentence}
use Rattle.view_page.proofs.Joined.{as_parts, no_parts, one_more}
use Rattle.view_sentences.proofs.sentences.push_each.Goals as goal

pub loop-place-init : goal.loop-place-init
loop-place-init c = no_parts c.args.text.now c.args.out.now.items

pub loop-place-preserved : goal.loop-place-preserved
loop-place-preserved c =
    one_more (sentence c.args.text.now c.args.view c.args.journal.now c.args.windows.now)
    c.args.places.now c.loop-place.place-index 0 c.loop-place-test.true c.loop-place.invariant
    c.in_ok-push_sentence.ensures

pub returns : goal.returns
returns c =
    as_parts c.loop-place.invariant
    (ap (flat_map (sentence c.args.text.now c.args.view c.args.journal.now c.args.windows.now))
    (take_all c.loop-place.place-index c.args.places.now c.loop-place-test.false))

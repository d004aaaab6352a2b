use Rattle.std.proofs.Common.{List, Option, ap, ◌∙◌, arith}
use Rattle.std.specs.Prelude.{reverse}
use Rattle.std.proofs.lemmas.List.{take_all}
use Rattle.view_page.specs.journals.Sentences.{held_by}
use Rattle.view_page.specs.journals.reading.words.declared.event.Kind.{Kind}
use Rattle.view_sentences.specs.Holders.{held_files, holds}
use Rattle.view_sentences.proofs.HoldersSteps.{holder_next}
use Rattle.view_sentences.proofs.holders.holders_in.Goals as goal

pub loop-place-init : goal.loop-place-init
loop-place-init c = c.new-holders.ensures.items

pub loop-place-preserved : goal.loop-place-preserved
loop-place-preserved c =
    holder_next c.args.holding c.args.file c.args.held.now c.loop-place.place
    c.loop-place.holders.items c.add_if.new.places.items c.is_holder.result
    c.loop-place-test.true c.is_holder.ensures c.loop-place.invariant c.in_ok-add_if.ensures

pub returns : goal.returns
returns c =
    c.loop-place.invariant
    ∙ ap (λ (held : List (Option Kind)).
    reverse (held_by (holds c.args.holding) c.args.file (held_files held)))
    (take_all c.loop-place.place c.args.held.now (omega arith))

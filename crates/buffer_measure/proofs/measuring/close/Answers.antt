-- The passes are all passes of the list except its own, and the outcome is a run of the text.
use Rattle.buffer_measure.proofs.Closing.{others_done, run_is}
use Rattle.buffer_measure.proofs.measuring.close.Goals as goal

pub close-list-requires : goal.close-list-requires
close-list-requires g c =
    others_done g.N.Name.constants c.args.book c.args.workers.items c.in_ok-passes.passes.items
    c.requires.book c.requires.done c.in_ok-passes.ensures.passes

pub returns : goal.returns
returns g c =
    run_is g.N.Name.constants c.args.book c.args.workers.items c.in_ok-passes.passes.items
    c.in_ok-passes.answers.items c.close-list.result.0.items c.close-list.result.1 c.requires.book
    c.requires.done c.in_ok-passes.ensures.passes c.in_ok-passes.ensures.answers
    c.close-list.ensures.list c.close-list.ensures.banks c.close-list.ensures.seen
    c.close-list.ensures.places c.close-list.ensures.distinct

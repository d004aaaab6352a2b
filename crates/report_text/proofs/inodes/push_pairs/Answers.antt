use Rattle.std.proofs.Common.{◌++◌, ◌∙◌}
use Rattle.report_text.specs.Report.{attr_line}
use Rattle.report_events.specs.Texts.{line_text}
use Rattle.list_lemmas.proofs.Appending.{one_item}
use Rattle.report_text.proofs.inodes.push_pairs.Goals as goal

pub loop-pair-preserved : goal.loop-pair-preserved
loop-pair-preserved c =
    one_item _ (λ p. line_text (attr_line p)) c.args.pairs.now c.loop-pair.pair-index
    c.pair-item.result c.loop-pair-test.true c.pair-item.is c.loop-pair.invariant
    (c.in_ok-push_attr.ensures
    ∙ λ j. c.loop-pair.out.items
    ++ line_text (attr_line (c.as_slice.ensures.bytes j, c.as_slice-in-loop-pair.ensures.bytes j)))

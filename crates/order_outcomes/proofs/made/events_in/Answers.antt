use Rattle.std.proofs.Common.{ap, ◌∙◌}
use Rattle.std.proofs.lemmas.List.{take_all}
use Rattle.order_outcomes.specs.Made.{events_in}
use Rattle.order_outcomes.proofs.made.events_in.Goals as goal

pub returns : goal.returns
returns c =
    c.loop-k.invariant.sum
    ∙ ap events_in (take_all c.loop-k.k c.args.inodes.now c.loop-k-test.false)

use Rattle.list_lemmas.proofs.Appending.{one_more}
use Rattle.view_layout.specs.Drawing.{guide_items}
use Rattle.view_layout.proofs.Appended.{all_there, none_yet}
use Rattle.view_layout.proofs.NoItems.{no_flag}
use Rattle.view_layout.proofs.scenery.push_guides.Goals as goal

pub loop-flag-init : goal.loop-flag-init
loop-flag-init c = none_yet c.args.items.now.items (guide_items c.args.bottom) c.args.flags.now

pub loop-flag-preserved : goal.loop-flag-preserved
loop-flag-preserved c =
    one_more c.args.items.now.items (guide_items c.args.bottom) c.args.flags.now
    c.loop-flag.flag-index no_flag c.loop-flag-test.true c.loop-flag.invariant
    c.in_ok-push_guide.ensures

pub returns : goal.returns
returns c =
    all_there c.args.items.now.items (guide_items c.args.bottom) c.args.flags.now
    c.loop-flag.flag-index c.loop-flag-test.false c.loop-flag.invariant

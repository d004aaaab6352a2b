use Rattle.list_lemmas.proofs.Appending.{one_more}
use Rattle.view_layout.specs.Drawing.{bar_items}
use Rattle.view_layout.proofs.Appended.{all_there, none_yet}
use Rattle.view_lanes.proofs.NoItems.{no_seat}
use Rattle.view_layout.proofs.scenery.push_bars.Goals as goal

pub loop-seat-init : goal.loop-seat-init
loop-seat-init c = none_yet c.args.items.now.items (bar_items c.args.columns.now) c.args.seats.now

pub loop-seat-preserved : goal.loop-seat-preserved
loop-seat-preserved c =
    one_more c.args.items.now.items (bar_items c.args.columns.now) c.args.seats.now
    c.loop-seat.seat-index no_seat c.loop-seat-test.true c.loop-seat.invariant
    c.in_ok-push_bar.ensures

pub returns : goal.returns
returns c =
    all_there c.args.items.now.items (bar_items c.args.columns.now) c.args.seats.now
    c.loop-seat.seat-index c.loop-seat-test.false c.loop-seat.invariant

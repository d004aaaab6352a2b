use Rattle.list_lemmas.proofs.Appending.{one_more}
use Rattle.view_layout.specs.Drawing.{end_of, lane_items}
use Rattle.view_layout.proofs.Appended.{all_there, none_yet}
use Rattle.view_lanes.proofs.NoItems.{no_lane}
use Rattle.view_layout.proofs.scenery.push_lane_items.Goals as goal

pub loop-lane-init : goal.loop-lane-init
loop-lane-init c = none_yet c.args.items.now.items (lane_items (end_of c.args.columns.now)) c.args.lanes.now

pub loop-lane-preserved : goal.loop-lane-preserved
loop-lane-preserved c =
    one_more c.args.items.now.items (lane_items (end_of c.args.columns.now)) c.args.lanes.now
    c.loop-lane.lane-index no_lane c.loop-lane-test.true c.loop-lane.invariant
    (rw c.end_of.ensures.is at c.in_ok-push_lane.ensures)

pub returns : goal.returns
returns c =
    all_there c.args.items.now.items (lane_items (end_of c.args.columns.now)) c.args.lanes.now
    c.loop-lane.lane-index c.loop-lane-test.false c.loop-lane.invariant

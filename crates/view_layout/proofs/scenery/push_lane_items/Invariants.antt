use Rattle.std.proofs.Common.{◌≡◌, ◌++◌, take}
use Rattle.std.specs.List.{flat_map}
use Rattle.view_layout.specs.Drawing.{end_of, lane_items}
use Rattle.view_layout.proofs.scenery.push_lane_items.Given as goal

-- the lanes so far have been appended
abbrev pub invariant-loop-lane : goal.invariant-loop-lane
invariant-loop-lane l =
    l.items.items
    ≡ l.fn.items.items ++ flat_map (lane_items (end_of l.columns)) (take l.lane-index l.lanes)

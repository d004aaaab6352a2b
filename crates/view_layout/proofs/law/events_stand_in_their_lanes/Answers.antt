use Rattle.view_layout.proofs.InLanes.{events_stand_in_their_lanes}
use Rattle.view_layout.proofs.law.events_stand_in_their_lanes.Goals as goal

pub returns : goal.returns
returns c = events_stand_in_their_lanes

use Rattle.std.proofs.Common.{◌∙◌}
use Rattle.view_lanes.proofs.lanes.push_seats.Goals as goal

pub returns-clause-is : goal.returns-clause-is
returns-clause-is c =
    rw (c.deref.ensures.value ∙ c.in_ok-own.ensures.is) at c.push_own.ensures.is

pub returns-clause-height : goal.returns-clause-height
returns-clause-height c =
    rw (c.deref.ensures.value ∙ c.in_ok-own.ensures.is) at c.push_own.ensures.height

use Rattle.std.proofs.Common.{◌≡◌, drop}
use Rattle.view_plan.specs.Plan.{is_drawn}
use Rattle.view_plan.proofs.plan.is_drawn.Given as goal

-- the windows so far don't cover the event
abbrev pub invariant-loop-part : goal.invariant-loop-part
invariant-loop-part l = is_drawn l.at (drop l.part-index l.shown) ≡ is_drawn l.at l.shown

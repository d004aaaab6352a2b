use Rattle.std.proofs.Common.{◌≡◌, drop}
use Rattle.view_plan.specs.Plan.{places_from, places_of}
use Rattle.view_plan.proofs.plan.places_of.Given as goal

abbrev pub invariant-loop-window : goal.invariant-loop-window
invariant-loop-window l = places_from l.n (drop l.window-index l.windows) ≡ places_of l.windows

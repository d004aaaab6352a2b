use Rattle.std.proofs.Common.{take}
use Rattle.std.specs.List.{flat_map}
use Rattle.view_page.specs.Parts.{Pushed}
use Rattle.view_overview.specs.Overview.{step}
use Rattle.view_overview.proofs.overview.push_steps.Given as goal

-- the steps so far have been appended
abbrev pub invariant-loop-bucket : goal.invariant-loop-bucket
invariant-loop-bucket l =
    Pushed l.text l.fn.out.items l.out.items
    (flat_map (step l.count l.width l.most) (take l.bucket-index l.buckets))

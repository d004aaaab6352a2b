use Rattle.std.proofs.Common.{ℕ, [], ◌∷◌, ap}
use Rattle.std.specs.List.{flat_map}
use Rattle.view_overview.specs.Overview.{step}
use Rattle.view_page.specs.declared.part.Part.TheVariants as part
use Rattle.view_page.specs.declared.told.Overview.{Overview}
use Rattle.view_page.proofs.Joined.{as_parts, ◌▹◌}
use Rattle.view_overview.proofs.overview.push_counts.Goals as goal

pub returns : goal.returns
returns c =
    as_parts c.in_ok-push_parts.ensures
    (ap (λ (o : Overview). part.Overview o ∷ []) c.opens.ensures)
    ▹ as_parts c.in_ok-push_steps.ensures
    (ap (λ (m : ℕ). flat_map (step c.args.count c.args.width m) c.args.buckets.now)
    c.most-most.ensures.is)
    ▹ as_parts c.in_ok-push_parts-2.ensures
    (ap (λ (o : Overview). part.Overview o ∷ []) c.closes.ensures)

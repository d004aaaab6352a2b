use Rattle.std.proofs.Common.{[], ◌∷◌, ap}
use Rattle.view_page.specs.declared.part.Part.TheVariants as part
use Rattle.view_page.specs.declared.told.Overview.{Overview}
use Rattle.view_page.proofs.Joined.{as_parts, ◌▹◌}
use Rattle.view_overview.proofs.overview.push_marks.Goals as goal

pub returns : goal.returns
returns c =
    as_parts c.in_ok-push_parts.ensures
    (ap (λ (o : Overview). part.Overview o ∷ []) c.colour_of.ensures)
    ▹ c.in_ok-push_marks_of.ensures ▹ c.in_ok-push_parts-2.ensures

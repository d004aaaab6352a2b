use Rattle.std.proofs.Common.{[], ◌∷◌, ap}
use Rattle.std.proofs.lemmas.Result.{on_ok_weaker}
use Rattle.view_page.specs.declared.html.Section.TheVariants as section
use Rattle.view_page.specs.declared.part.Part.{Part}
use Rattle.view_page.specs.declared.part.Part.TheVariants as part
use Rattle.view_page.proofs.Joined.{as_parts, ◌▹◌}
use Rattle.view_pages.proofs.pair.push_side_heading.Goals as goal

pub returns : goal.returns
returns c =
    on_ok_weaker c.push_parts.result
    (λ pushed. c.in_ok-push_heading.ensures ▹ c.in_ok-push_marked.ensures
    ▹ as_parts pushed (ap (λ (p : Part). p ∷ part.Section section.Close ∷ []) c.which.ensures))
    c.push_parts.ensures

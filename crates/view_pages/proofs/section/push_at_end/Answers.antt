use Rattle.std.proofs.Common.{ℕ, ap}
use Rattle.std.proofs.lemmas.Result.{on_ok_weaker}
use Rattle.view_page.specs.Parts.{more}
use Rattle.view_pages.specs.Section.{titled}
use Rattle.view_page.specs.declared.html.Section.TheVariants as section
use Rattle.view_page.specs.declared.part.Part.TheVariants as part
use Rattle.view_page.proofs.Joined.{as_parts, ◌▹◌}
use Rattle.view_pages.proofs.section.push_at_end.Goals as goal

pub returns : goal.returns
returns c =
    on_ok_weaker c.push_parts-3.result
    (λ pushed. c.in_ok-push_counts.ensures ▹ c.in_ok-push_parts.ensures
    ▹ as_parts c.in_ok-push_titled.ensures (ap (titled 23) c.after_word.ensures)
    ▹ c.in_ok-push_parts-2.ensures ▹ c.in_ok-push_attrs.ensures
    ▹ as_parts c.in_ok-push_more.ensures
    (ap (λ (n : ℕ). more (part.Section section.More) n (part.Section section.MoreAttrs))
    c.saturating_sub-more.ensures)
    ▹ pushed)
    c.push_parts-3.ensures

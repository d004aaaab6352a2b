use Rattle.std.proofs.Common.{ℕ, ◌-◌, length, take, ap, sym, ◌∙◌}
use Rattle.std.specs.Prelude.{max}
use Rattle.std.proofs.lemmas.List.{length-take-le}
use Rattle.std.proofs.lemmas.Result.{on_ok_weaker}
use Rattle.view_pages.specs.Pair.{most_pairs, pairs_from}
use Rattle.view_page.specs.Parts.{more}
use Rattle.view_page.specs.declared.html.Section.TheVariants as section
use Rattle.view_page.specs.declared.part.Part.TheVariants as part
use Rattle.view_page.proofs.Joined.{as_parts, ◌▹◌}
use Rattle.view_pages.proofs.pair.push_pairs.Goals as goal

pub push_pairs_of-requires : goal.push_pairs_of-requires
push_pairs_of-requires c =
    length-take-le c.shown-n.result c.args.first.now c.shown-n.ensures.first
    ∙ sym (length-take-le c.shown-n.result c.args.second.now c.shown-n.ensures.second)

pub returns : goal.returns
returns c =
    on_ok_weaker c.push_more.result
    (λ pushed. as_parts c.in_ok-push_pairs_of.ensures
    (ap (λ (n : ℕ). pairs_from c.args.text.now 0 most_pairs (take n c.args.first.now)
    (take n c.args.second.now)) c.shown-n.ensures.value)
    ▹ as_parts pushed
    (ap (λ (n : ℕ). more (part.Section section.MoreInodes) (n - c.shown-n.result)
    (part.Section section.MoreInodesEnd)) c.max.ensures
    ∙ ap (λ (n : ℕ). more (part.Section section.MoreInodes)
    (max (length c.args.first.now) (length c.args.second.now) - n)
    (part.Section section.MoreInodesEnd)) c.shown-n.ensures.value))
    c.push_more.ensures

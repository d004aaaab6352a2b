use Rattle.std.proofs.Common.{ℕ, ap}
use Rattle.std.proofs.lemmas.Result.{on_ok_weaker}
use Rattle.view_page.specs.Parts.{more}
use Rattle.view_page.specs.declared.html.Table.TheVariants as table
use Rattle.view_page.specs.declared.part.Part.TheVariants as part
use Rattle.view_page.proofs.Joined.{as_parts, ◌▹◌}
use Rattle.view_tables.proofs.tables.push_rules_shown.Goals as goal

pub returns : goal.returns
returns c =
    on_ok_weaker c.push_more.result
    (λ pushed. c.in_ok-push_parts.ensures ▹ c.in_ok-push_rule_rows.ensures ▹ c.in_ok-push_parts-2.ensures
    ▹ as_parts pushed
    (ap (λ (n : ℕ). more (part.Table table.More) n (part.Table table.MoreEnd))
    c.saturating_sub-more.ensures))
    c.push_more.ensures

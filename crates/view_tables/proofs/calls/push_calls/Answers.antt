use Rattle.std.proofs.Common.{ℕ, List, ap}
use Rattle.std.proofs.lemmas.Result.{on_ok_weaker}
use Rattle.view_page.specs.journals.reading.Report.{TaskValue}
use Rattle.view_tables.specs.Calls.{tasks_from}
use Rattle.view_page.specs.Parts.{more}
use Rattle.view_page.specs.declared.html.Table.TheVariants as table
use Rattle.view_page.specs.declared.part.Part.TheVariants as part
use Rattle.view_page.proofs.Joined.{as_parts, ◌▹◌}
use Rattle.view_tables.proofs.calls.push_calls.Goals as goal

pub returns : goal.returns
returns c =
    on_ok_weaker c.push_more.result
    (λ pushed. c.in_ok-push_parts.ensures
    ▹ as_parts c.in_ok-push_tasks.ensures
    (ap (λ (ts : List TaskValue). tasks_from c.args.text.now c.args.side c.args.shown.now
    c.args.inodes.now 0 ts) c.first_of.ensures)
    ▹ c.in_ok-push_parts-2.ensures
    ▹ as_parts pushed
    (ap (λ (n : ℕ). more (part.Table table.More) n (part.Table table.MoreEnd))
    c.saturating_sub-more.ensures))
    c.push_more.ensures

use Rattle.std.proofs.Common.{List, Option, ap, ◌∙◌}
use Rattle.std.proofs.lemmas.Result.{on_ok_weaker}
use Rattle.view_tables.specs.Entries.{entries}
use Rattle.view_plan.specs.declared.slots.At.{At}
use Rattle.view_page.proofs.Joined.{as_parts}
use Rattle.view_pages.proofs.page.push_list.Goals as goal

pub returns : goal.returns
returns c =
    on_ok_weaker c.push_entries.result
    (λ pushed. as_parts pushed
    (ap (λ (t : List (Option At)).
    entries c.args.text.now c.args.side c.args.shown.now t c.args.lines.now)
    (c.deref.ensures.value ∙ c.in_ok-added.ensures)))
    c.push_entries.ensures

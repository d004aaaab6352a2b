use Rattle.std.proofs.Common.{ℕ, List, ap, ◌∙◌}
use Rattle.std.proofs.lemmas.Result.{on_ok_weaker}
use Rattle.view_pages.specs.Pair.{both_tables}
use Rattle.view_page.proofs.Joined.{as_parts}
use Rattle.view_pages.proofs.pair.push_linked_tables.Goals as goal

pub returns : goal.returns
returns c =
    on_ok_weaker c.push_both_tables.result
    (λ pushed. as_parts pushed
    (ap (λ (ns : List ℕ). both_tables c.args.text.now ns c.args.first.now c.args.second.now)
    (c.deref.ensures.value ∙ c.in_ok-numbers.ensures)))
    c.push_both_tables.ensures

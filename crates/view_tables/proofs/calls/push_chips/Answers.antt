use Rattle.std.proofs.Common.{List, Option, ap, ◌∙◌}
use Rattle.std.proofs.lemmas.Result.{on_ok_weaker}
use Rattle.view_tables.specs.Calls.{chips_from}
use Rattle.view_plan.specs.declared.slots.At.{At}
use Rattle.view_page.proofs.Joined.{as_parts}
use Rattle.view_tables.proofs.calls.push_chips.Goals as goal

pub returns : goal.returns
returns c =
    on_ok_weaker c.push_chips_of.result
    (λ pushed. as_parts pushed
    (ap (λ (t : List (Option At)). chips_from c.args.text.now c.args.side c.args.shown.now
    c.args.inodes.now t 0 0 c.args.replies.now) (c.deref.ensures.value ∙ c.in_ok-firsts.ensures)))
    c.push_chips_of.ensures

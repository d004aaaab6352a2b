use Rattle.order_top.specs.Words.{asked_value}
use Rattle.order_top.proofs.Passing.{passes}
use Rattle.order_top.proofs.top.answer.Goals as goal

pub returns-in-Ok : goal.returns-in-Ok
returns-in-Ok c =
    passes c.in-Ok.play (asked_value c.args.asked) c.args.input c.table.result c.in-Ok.ensures
    c.table.ensures

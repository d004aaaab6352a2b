use Rattle.std.proofs.Common.{arith}
use Rattle.buffer_text.proofs.Copies.{one_copied}
use Rattle.buffer_text.proofs.text.copies_of_callers.Goals as goal

pub loop-caller-preserved : goal.loop-caller-preserved
loop-caller-preserved c =
    one_copied c.args.callers.now c.loop-caller.copies.items c.push.new.self.items
    c.loop-caller.caller-index c.caller-item.result c.in_ok-copy.field-0 (omega arith)
    c.caller-item.is c.in_ok-copy.ensures c.loop-caller.invariant c.in_ok-push.ensures.items

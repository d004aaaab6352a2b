use Rattle.std.proofs.Common.{arith}
use Rattle.buffer_text.proofs.Copies.{one_copied}
use Rattle.buffer_text.proofs.text.copies_of_lines.Goals as goal

pub loop-line-preserved : goal.loop-line-preserved
loop-line-preserved c =
    one_copied c.args.lines.now c.loop-line.copies.items c.push.new.self.items
    c.loop-line.line-index c.line-item.result c.in_ok-copy_of.field-0 (omega arith) c.line-item.is
    c.in_ok-copy_of.ensures c.loop-line.invariant c.in_ok-push.ensures.items

use Rattle.std.proofs.Common.{◌-◌, ◌+◌, ◌%◌, arith}
use Rattle.inode_pages.proofs.Reading.{read_on}
use Rattle.inode_pages.proofs.content.Content.read.Goals as goal

pub loop-done-preserved : goal.loop-done-preserved
loop-done-preserved c =
    let old = c.loop-done.invariant in
    let next = read_on c.args.self.now c.args.buf.now c.loop-done.buf c.copy_part-count.new.buf
    c.rest_of_page.result.now c.args.from c.loop-done.done c.copy_part-count.result
    (4096 - (c.args.from + c.loop-done.done) % 4096) old.bytes old.whole c.rest_of_page.ensures
    (omega arith) c.copy_part-count.ensures.bytes in
    record { bytes = next.0; whole = next.1; within = omega arith }

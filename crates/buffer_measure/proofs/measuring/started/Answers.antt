-- The list and its workers are those of the callers.
use Rattle.std.proofs.Common.{◌+◌, refl, arith}
use Rattle.buffer_measure.proofs.Starting.{started}
use Rattle.buffer_measure.proofs.measuring.started.Goals as goal

pub returns : goal.returns
returns c =
    started c.args.hash c.args.callers.items c.in_ok-book.book c.len-count.result
    (c.len-count.result + 1) c.in_ok-boot.boot c.in_ok-workers.workers.items
    c.in_ok-book.passes.items (omega (arith, c.len-count.ensures, c.args.callers.ok.0)) refl
    c.in_ok-boot.ensures c.in_ok-book.ensures.list c.in_ok-book.ensures.callers
    c.in_ok-workers.ensures.callers c.in_ok-workers.ensures.passes c.in_ok-book.ensures.passes

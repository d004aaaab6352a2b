use Rattle.report_text.specs.model.events.EndedInode.{EndedInodeValue}
use Rattle.report_text.specs.model.events.NewestFirst.{newest_first}
use Rattle.order_outcomes.specs.Calls.{listed_in, listed_of}
use Rattle.order_outcomes.proofs.Walking.{or_end}
use Rattle.order_outcomes.proofs.calls.listed_of.Goals as goal

pub returns : goal.returns
returns c =
    or_end (listed_of c.args.list.now c.args.task c.args.call)
    (λ (i : EndedInodeValue). listed_in c.args.list.now c.args.task c.args.call
    (newest_first i.journal))
    c.args.inodes.now c.loop-inode.inode-index c.loop-inode.invariant c.loop-inode-test.false

use Rattle.std.proofs.Common.{refl, ap, sym, ◌∙◌}
use Rattle.report_text.specs.model.events.EndedInode.{EndedInodeValue}
use Rattle.order_outcomes.specs.Calls.{verdict_in, verdict_of}
use Rattle.order_outcomes.proofs.Walking.{or_end, or_more}
use Rattle.order_outcomes.proofs.calls.verdict_of.Goals as goal

pub loop-inode-preserved : goal.loop-inode-preserved
loop-inode-preserved c =
    or_more (verdict_of c.args.task c.args.call)
    (λ (i : EndedInodeValue). verdict_in c.args.task c.args.call i.journal)
    c.args.inodes.now c.loop-inode.inode-index c.loop-inode.invariant c.inode-item.result _
    (λ y ys. refl) c.loop-inode-test.true c.inode-item.is
    (sym c.in_default.is ∙ c.verdict_in.ensures ∙ ap (verdict_in c.args.task c.args.call)
    (c.as_slice.ensures.value ∙ ap (λ (i : EndedInodeValue). i.journal) c.inode.view_is))

pub returns-in-Some : goal.returns-in-Some
returns-in-Some c =
    or_more (verdict_of c.args.task c.args.call)
    (λ (i : EndedInodeValue). verdict_in c.args.task c.args.call i.journal)
    c.args.inodes.now c.loop-inode.inode-index c.loop-inode.invariant c.inode-item.result _
    (λ y ys. refl) c.loop-inode-test.true c.inode-item.is
    (sym c.in-Some.is ∙ c.verdict_in.ensures ∙ ap (verdict_in c.args.task c.args.call)
    (c.as_slice.ensures.value ∙ ap (λ (i : EndedInodeValue). i.journal) c.inode.view_is))

pub returns : goal.returns
returns c =
    or_end (verdict_of c.args.task c.args.call)
    (λ (i : EndedInodeValue). verdict_in c.args.task c.args.call i.journal)
    c.args.inodes.now c.loop-inode.inode-index c.loop-inode.invariant c.loop-inode-test.false

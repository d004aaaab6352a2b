use Rattle.std.proofs.Common.{refl}
use Rattle.order_outcomes.specs.Outcome.{call_text, calls_text}
use Rattle.order_outcomes.proofs.Walking.{numbered_end, numbered_more}
use Rattle.order_outcomes.proofs.outcome.push_calls.Goals as goal

pub loop-call-preserved : goal.loop-call-preserved
loop-call-preserved c =
    let e = c.args.ended.now in
    numbered_more (calls_text e.list e.inodes c.args.task) (call_text e.list e.inodes c.args.task)
    c.args.replies.now c.loop-call.call _ c.loop-call.out.items c.loop-call.invariant
    c.index-replies-call.result _ (λ n y ys. refl) c.loop-call-test.true c.index-replies-call.is
    c.in_ok-push_call.ensures

pub returns : goal.returns
returns c =
    let e = c.args.ended.now in
    numbered_end (calls_text e.list e.inodes c.args.task) (call_text e.list e.inodes c.args.task)
    c.args.replies.now c.loop-call.call _ c.loop-call.out.items c.loop-call.invariant refl
    c.loop-call-test.false

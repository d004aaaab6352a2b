use Rattle.std.proofs.Common.{List, subst, sym}
use Rattle.std.proofs.lemmas.Bool.{true≢false}
use Rattle.std.specs.Prelude.{All}
use Rattle.std.proofs.lemmas.List.{take_all}
use Rattle.std.proofs.lemmas.List.Elements.{All-more}
use Rattle.std.proofs.lemmas.Result.{err_from_is_err_and}
use Rattle.inode_events.specs.declared.told.Event.{Event}
use Rattle.order_told.specs.Told.{IsCallSame}
use Rattle.order_told.proofs.told.same_calls.Goals as goal

pub loop-event-preserved : goal.loop-event-preserved
loop-event-preserved c =
    All-more (IsCallSame c.args.list.now c.args.other.now c.args.a.now c.args.b.now)
    c.args.journal.now c.loop-event.event-index c.event-item.result c.loop-event-test.true
    c.loop-event.invariant
    (subst (λ (e : Event).
    IsCallSame c.args.list.now c.args.other.now c.args.a.now c.args.b.now e)
    c.event-item.is (record {
      verdict = c.same_verdict.ensures c.if-not-same_verdict.false;
      listed = c.in_ok-same_listed.ensures c.if-not-branch.false;
    }))

pub returns : goal.returns
returns c = λ _.
    subst (λ (es : List Event).
    All (IsCallSame c.args.list.now c.args.other.now c.args.a.now c.args.b.now) es)
    (take_all c.loop-event.event-index c.args.journal.now c.loop-event-test.false)
    c.loop-event.invariant

pub returns-in_err-same_listed : goal.returns-in_err-same_listed
returns-in_err-same_listed c =
    let p = err_from_is_err_and c.from_residual.result c.from_residual.ensures.1 in
    rw (p.1) tt

pub returns-then-not-same_verdict : goal.returns-then-not-same_verdict
returns-then-not-same_verdict c = λ t. absurd (true≢false (sym t))

pub returns-then-not-branch : goal.returns-then-not-branch
returns-then-not-branch c = λ t. absurd (true≢false (sym t))

use Rattle.std.proofs.Common.{sym, arith}
use Rattle.order_sights.specs.Pairs.{IsHandlePaired}
use Rattle.order_sights.proofs.Twos.{two_all, two_more}
use Rattle.order_sights.proofs.pairs.same_handles.Goals as goal

pub loop-k-preserved : goal.loop-k-preserved
loop-k-preserved c =
    let even = c.if-a-b.false in
    let within = c.loop-k-test.true in
    two_more (IsHandlePaired c.args.pairs.now) c.args.a.now c.args.b.now c.loop-k.k _ _ within
    (omega (arith, even, within))
    (c.same_handle.ensures c.if-not-same_handle.false)
    c.loop-k.invariant

pub returns : goal.returns
returns c = λ _. (
  sym c.if-a-b.false,
  two_all (IsHandlePaired c.args.pairs.now) c.args.a.now c.args.b.now c.loop-k.k
      c.loop-k-test.false c.loop-k.invariant,
)

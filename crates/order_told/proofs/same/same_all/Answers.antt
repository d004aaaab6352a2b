use Rattle.std.proofs.Common.{length, sym, ◌≤◌, ◌∙◌, arith}
use Rattle.std.proofs.lemmas.List.{take_all}
use Rattle.order_told.proofs.Firsts.{take_next}
use Rattle.order_told.proofs.same.same_all.Goals as goal

pub loop-k-preserved : goal.loop-k-preserved
loop-k-preserved g c =
    let even = c.if-a-b.false in
    let within = c.loop-k-test.true in
    take_next c.args.a.now c.args.b.now c.loop-k.k c.index-a-k.result c.index-b-k.result within
    (omega (arith, even, within)) c.index-a-k.is c.index-b-k.is
    (c.is_same.ensures c.if-not-is_same.false) c.loop-k.invariant

pub returns : goal.returns
returns g c = λ _.
    let even = c.if-a-b.false in
    let past = c.loop-k-test.false in
    let past2 : length c.args.b.now ≤ c.loop-k.k = omega (arith, even, past) in
    sym (take_all c.loop-k.k c.args.a.now past) ∙ c.loop-k.invariant
    ∙ take_all c.loop-k.k c.args.b.now past2

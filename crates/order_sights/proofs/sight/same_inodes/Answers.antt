use Rattle.std.proofs.Common.{length, sym, ap, below_more, arith}
use Rattle.std.proofs.lemmas.Bool.{true≢false}
use Rattle.std.proofs.lemmas.Result.{err_from_is_err_and}
use Rattle.order_sights.specs.Sights.{IsInodeSame}
use Rattle.order_sights.specs.declared.sight.Sight.{Sight}
use Rattle.order_sights.proofs.sight.same_inodes.Goals as goal

pub loop-i-preserved : goal.loop-i-preserved
loop-i-preserved c =
    below_more (λ i. IsInodeSame c.args.pairs.now i c.args.a.now c.args.b.now) c.loop-i.i
    c.loop-i.invariant (c.in_ok-same_inode.ensures c.if-not-branch.false)

pub returns : goal.returns
returns c = λ _ i lt.
    let end = c.len-i-end.ensures in
    let over = c.loop-i-test.false in
    let view = ap (λ (s : Sight). length s.ended.inodes) c.a.view_is in
    c.loop-i.invariant i (omega (arith, lt, end, over, view))

pub returns-in_err-same_inode : goal.returns-in_err-same_inode
returns-in_err-same_inode c =
    let p = err_from_is_err_and c.from_residual.result c.from_residual.ensures.1 in
    rw (p.1) tt

pub returns-then-not-branch : goal.returns-then-not-branch
returns-then-not-branch c = λ t. absurd (true≢false (sym t))

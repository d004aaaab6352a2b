use Rattle.std.proofs.Common.{sym}
use Rattle.std.proofs.lemmas.Bool.{true≢false}
use Rattle.std.proofs.lemmas.Result.{IfOk-weaker}
use Rattle.order_sights.proofs.Founding.{inode_found}
use Rattle.order_sights.proofs.sight.same_inode.Goals as goal

pub returns : goal.returns
returns c =
    IfOk-weaker c.same_journals.result _ _
    (λ same journals t.
    inode_found c.args.pairs.now c.args.i c.args.a.now c.args.b.now _ _ c.a.view_is c.b.view_is
    c.in-Some-Some.cell.now c.in-Some-Some.other.now _ _ _ _ c.in-Some-Some.ensures
    c.in-Some-Some.ensures' (c.same_cell.ensures c.if-not-same_cell.false) c.as_slice.ensures.value
    c.as_slice-2.ensures.value c.as_slice-3.ensures.value c.as_slice-4.ensures.value
    (journals t))
    c.same_journals.ensures

pub returns-in_default : goal.returns-in_default
returns-in_default c = λ t. absurd (true≢false (sym t))

pub returns-then-not-same_cell : goal.returns-then-not-same_cell
returns-then-not-same_cell c = λ t. absurd (true≢false (sym t))

use Rattle.std.proofs.Common.{◌∙◌, ap, sym}
use Rattle.std.proofs.lemmas.Bool.{true≢false}
use Rattle.std.proofs.lemmas.Option.{get_or_from_slice_get}
use Rattle.std.proofs.lemmas.Result.{IfOk-weaker, err_from_is_err_and}
use Rattle.inode_events.specs.EndedInode.{EndedInodeValue}
use Rattle.order_sights.proofs.Journals.{journals_same}
use Rattle.order_sights.proofs.inodes.same_journals.Goals as goal

pub returns : goal.returns
returns c =
    IfOk-weaker c.same_calls-2.result _ _
    (λ same calls t x y at at2.
    journals_same c.args.list.now c.args.other.now c.args.pairs.now c.args.i x y _ _ _ _
    (c.as_slice-first.ensures.value ∙ ap (λ (e : EndedInodeValue). e.journal) (c.inode.view_is
    ∙ c.index-a-i.is ∙ get_or_from_slice_get c.args.a.now c.args.i x c.index-a-i.result at))
    (c.as_slice-second.ensures.value ∙ ap (λ (e : EndedInodeValue). e.journal) (c.inode2.view_is
    ∙ c.index-b-i.is ∙ get_or_from_slice_get c.args.b.now c.args.i y c.index-b-i.result at2))
    (c.only-here.ensures x at) (c.only-there.ensures y at2)
    (c.same_files.ensures c.if-not-same_files.false)
    (c.in_ok-same_entries.ensures c.if-not-branch.false)
    (c.in_ok-same_taken.ensures c.if-not-branch-2.false)
    (c.in_ok-same_calls.ensures c.if-not-branch-3.false)
    (calls t))
    c.same_calls-2.ensures

pub returns-in_err-same_entries : goal.returns-in_err-same_entries
returns-in_err-same_entries c =
    let p = err_from_is_err_and c.from_residual.result c.from_residual.ensures.1 in
    rw (p.1) tt

pub returns-in_err-same_taken : goal.returns-in_err-same_taken
returns-in_err-same_taken c =
    let p = err_from_is_err_and c.from_residual-in_err-same_taken.result c.from_residual-in_err-same_taken.ensures.1 in
    rw (p.1) tt

pub returns-in_err-same_calls : goal.returns-in_err-same_calls
returns-in_err-same_calls c =
    let p = err_from_is_err_and c.from_residual-in_err-same_calls.result c.from_residual-in_err-same_calls.ensures.1 in
    rw (p.1) tt

pub returns-then-not-same_files : goal.returns-then-not-same_files
returns-then-not-same_files c = λ t. absurd (true≢false (sym t))

pub returns-then-not-branch : goal.returns-then-not-branch
returns-then-not-branch c = λ t. absurd (true≢false (sym t))

pub returns-then-not-branch-2 : goal.returns-then-not-branch-2
returns-then-not-branch-2 c = λ t. absurd (true≢false (sym t))

pub returns-then-not-branch-3 : goal.returns-then-not-branch-3
returns-then-not-branch-3 c = λ t. absurd (true≢false (sym t))

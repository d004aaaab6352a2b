use Rattle.std.proofs.Common.{◌≡◌, ◌≤◌, List, ℕ, length, sym, ◌∙◌, ap, subst}
use Rattle.std.proofs.lemmas.Result.{err_from_is_err_and}
use Rattle.ima_templates.specs.Path.{IsMeasuredPath}
use Rattle.inode_meta.specs.declared.measurement.Template.TheVariants.{Ima}
use Rattle.inode_events.specs.Inode.{Inode}
use Rattle.inode_pages.specs.Content.{most_bytes}
use Rattle.inode_cell.proofs.Steps.{born_holds}
use Rattle.inode_cell.proofs.cell.InodeCell.start.Goals as goal

pub invariant_of-cell : goal.invariant_of-cell
invariant_of-cell c =
    let k = c.in_ok-kept.kept in
    let path_is : c.args.path.now ≡ k.inode.path = sym c.in_ok-path.ensures.0
    ∙ ap (λ (i : Inode). i.path) (sym c.in_ok-kept.ensures.inode) in
    born_holds k.inode k.list c.args.image c.in_ok-path.content c.in_ok-path.attrs
    c.args.book.seen c.args.book.mine
    (subst (λ (p : List ℕ). IsMeasuredPath Ima p) path_is c.requires.path)
    (subst (λ (i : Inode). length i.birth.content ≤ most_bytes) (sym c.in_ok-kept.ensures.inode)
    c.requires.content)
    c.in_ok-kept.ensures.list c.in_ok-path.ensures.1.0 c.in_ok-path.ensures.1.1 c.requires.book

pub returns-in_err-path-clause-inode : goal.returns-in_err-path-clause-inode
returns-in_err-path-clause-inode c =
    let p = err_from_is_err_and c.from_residual.result c.from_residual.ensures.1 in
    rw (p.1) tt

pub returns-in_err-path-clause-list : goal.returns-in_err-path-clause-list
returns-in_err-path-clause-list c =
    let p = err_from_is_err_and c.from_residual.result c.from_residual.ensures.1 in
    rw (p.1) tt

pub returns-in_err-path-clause-callers : goal.returns-in_err-path-clause-callers
returns-in_err-path-clause-callers c =
    let p = err_from_is_err_and c.from_residual.result c.from_residual.ensures.1 in
    rw (p.1) tt

pub returns-in_err-path-clause-book : goal.returns-in_err-path-clause-book
returns-in_err-path-clause-book c =
    let p = err_from_is_err_and c.from_residual.result c.from_residual.ensures.1 in
    rw (p.1) tt

pub returns-in_err-path-clause-count : goal.returns-in_err-path-clause-count
returns-in_err-path-clause-count c =
    let p = err_from_is_err_and c.from_residual.result c.from_residual.ensures.1 in
    rw (p.1) tt

pub returns-in_err-path-clause-passes : goal.returns-in_err-path-clause-passes
returns-in_err-path-clause-passes c =
    let p = err_from_is_err_and c.from_residual.result c.from_residual.ensures.1 in
    rw (p.1) tt

pub returns-in_err-path-clause-others : goal.returns-in_err-path-clause-others
returns-in_err-path-clause-others c =
    let p = err_from_is_err_and c.from_residual.result c.from_residual.ensures.1 in
    rw (p.1) tt

pub returns-in_err-kept-clause-inode : goal.returns-in_err-kept-clause-inode
returns-in_err-kept-clause-inode c =
    let p = err_from_is_err_and c.from_residual-in_err-kept.result c.from_residual-in_err-kept.ensures.1 in
    rw (p.1) tt

pub returns-in_err-kept-clause-list : goal.returns-in_err-kept-clause-list
returns-in_err-kept-clause-list c =
    let p = err_from_is_err_and c.from_residual-in_err-kept.result c.from_residual-in_err-kept.ensures.1 in
    rw (p.1) tt

pub returns-in_err-kept-clause-callers : goal.returns-in_err-kept-clause-callers
returns-in_err-kept-clause-callers c =
    let p = err_from_is_err_and c.from_residual-in_err-kept.result c.from_residual-in_err-kept.ensures.1 in
    rw (p.1) tt

pub returns-in_err-kept-clause-book : goal.returns-in_err-kept-clause-book
returns-in_err-kept-clause-book c =
    let p = err_from_is_err_and c.from_residual-in_err-kept.result c.from_residual-in_err-kept.ensures.1 in
    rw (p.1) tt

pub returns-in_err-kept-clause-count : goal.returns-in_err-kept-clause-count
returns-in_err-kept-clause-count c =
    let p = err_from_is_err_and c.from_residual-in_err-kept.result c.from_residual-in_err-kept.ensures.1 in
    rw (p.1) tt

pub returns-in_err-kept-clause-passes : goal.returns-in_err-kept-clause-passes
returns-in_err-kept-clause-passes c =
    let p = err_from_is_err_and c.from_residual-in_err-kept.result c.from_residual-in_err-kept.ensures.1 in
    rw (p.1) tt

pub returns-in_err-kept-clause-others : goal.returns-in_err-kept-clause-others
returns-in_err-kept-clause-others c =
    let p = err_from_is_err_and c.from_residual-in_err-kept.result c.from_residual-in_err-kept.ensures.1 in
    rw (p.1) tt

pub returns-clause-passes : goal.returns-clause-passes
returns-clause-passes c = c.in_ok-kept.ensures.passes

pub returns-clause-others : goal.returns-clause-others
returns-clause-others c =
    let others = c.in_ok-kept.ensures.others in
    record { of_journal = others.of_journal; one_each = others.one_each }

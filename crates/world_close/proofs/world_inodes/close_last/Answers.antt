use Rattle.std.proofs.Common.{sym, subst, ◌∙◌, ap, ◌+◌, ℕ}
use Rattle.std.proofs.lemmas.Result.{err_from_is_err_and}
use Rattle.world_model.specs.inodes.Ending.{HasPasses}
use Rattle.world_model.specs.World.{WorldInodeValue}
use Rattle.world_close.proofs.Rowing.{column_others}
use Rattle.world_close.proofs.world_inodes.close_last.Goals as goal

pub close-inode-requires : goal.close-inode-requires
close-inode-requires g c =
    let column = c.in_ok-column.ensures.column in
    let column_is = c.in_ok-column.column.items in
    subst (λ (v : WorldInodeValue). HasPasses v.cell column_is) (sym c.world_inode.view_is)
    (column_others c.args.world_inode.cell (g.names c.args.number) column_is column.0
    (ap (λ (n : ℕ). n + 1) column.1 ∙ sym c.requires.1.1) c.requires.1.0)

pub returns-in_err-column : goal.returns-in_err-column
returns-in_err-column g c =
    let p = err_from_is_err_and c.from_residual.result c.from_residual.ensures.1 in
    rw (p.1) (record { fit = tt; count = tt; inodes = tt; book = tt; rules = tt })

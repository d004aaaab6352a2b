use Rattle.std.proofs.Common.{All, subst}
use mathlib.Core.List.{IsPrefix}
use Rattle.inode_cell.specs.Value.{CellValue}
use Rattle.inode_cell.proofs.cell.InodeCell.close.Goals as goal

pub returns-clause-seen : goal.returns-clause-seen
returns-clause-seen c = subst (λ (v : CellValue). All (λ p. IsPrefix p.seen v.list)
    c.args.passes.items) c.self.view_is c.close-path.ensures.seen

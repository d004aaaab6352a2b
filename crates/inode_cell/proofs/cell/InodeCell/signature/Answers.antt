use Rattle.std.proofs.Common.{◌≡◌, ◌∙◌, ap, subst, sym}
use Rattle.std.specs.Option.{option_copied}
use Rattle.inode_events.specs.Integrity.{ima_name, label}
use Rattle.inode_events.specs.NewestFirst.{newest_first}
use Rattle.xattr_store.specs.Attrs.{Fits, value}
use Rattle.inode_cell.specs.Value.{CellValue}
use Rattle.inode_cell.proofs.Guarding.{signature_fits}
use Rattle.inode_cell.proofs.cell.InodeCell.signature.Goals as goal

pub returns-clause-fits : goal.returns-clause-fits
returns-clause-fits c =
    let same : value ima_name c.self.inside.attrs ≡ option_copied c.label.result =
    ap (value ima_name) c.self.invariant.attributes
    ∙ ap (λ (v : CellValue). label v.inode (newest_first v.list)) c.self.view_is
    ∙ sym c.label.ensures in
    rw c.signature_in.ensures
    (signature_fits (option_copied c.label.result) (subst Fits same c.value_fits.ensures))

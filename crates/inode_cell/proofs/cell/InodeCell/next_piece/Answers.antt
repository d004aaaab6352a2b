use Rattle.std.proofs.Common.{◌≡◌, sym, subst, ap, ◌∙◌, arith}
use Rattle.inode_events.specs.Integrity.{collecting}
use Rattle.inode_events.specs.Legal.{May}
use Rattle.inode_events.specs.NewestFirst.{newest_first}
use Rattle.inode_events.specs.declared.deed.Deed.{Deed}
use Rattle.inode_state.specs.Collecting.{shorts_seen}
use Rattle.inode_cell.specs.Fields.{value_of}
use Rattle.inode_cell.specs.Value.{CellValue}
use Rattle.inode_cell.proofs.GrantLemmas.{none_open, piece_open}
use Rattle.inode_cell.proofs.Guarding.{next_is_small}
use Rattle.inode_cell.proofs.cell.InodeCell.next_piece.Goals as goal

-- the deed may be done next in the journal that the cell keeps
may : (inside v : CellValue) (d : Deed) → inside ≡ v → May v.inode (newest_first v.list) d
    → May inside.inode (newest_first inside.list) d
may inside v d e m = subst (λ (w : CellValue). May w.inode (newest_first w.list) d) (sym e) m

pub overflow_cast-collecting : goal.overflow_cast-collecting
overflow_cast-collecting c =
    let k = c.self.inside.kept in
    let d = c.args.deed.now in
    let small = next_is_small k.inode (newest_first k.list) d c.in-Some.collecting
    c.self.invariant.small
    c.state.ensures.legal.1 (may (value_of c.self.inside) c.args.self.now d c.self.view_is
    c.requires.may) c.requires.piece
    (ap shorts_seen (sym c.in-Some.is) ∙ c.state.ensures.kept.collecting) in
    omega arith

pub unreachable-requires : goal.unreachable-requires
unreachable-requires c =
    let k = c.self.inside.kept in
    let d = c.args.deed.now in
    piece_open k.inode (newest_first k.list) d c.state.ensures.legal.1
    (may (value_of c.self.inside) c.args.self.now d c.self.view_is c.requires.may)
    c.requires.piece
    (none_open (collecting k.inode (newest_first k.list))
    (ap shorts_seen (sym c.in_default.is) ∙ c.state.ensures.kept.collecting))

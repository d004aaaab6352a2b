use Rattle.std.proofs.Common.{Some, ap}
use Rattle.inode_answers.specs.Answers.{piece_told}
use Rattle.inode_cell.proofs.Acting.{acts_ok, may_from}
use Rattle.inode_cell.proofs.cell.InodeCell.take_piece.Goals as goal

pub returns-clause-acts : goal.returns-clause-acts
returns-clause-acts c = λ list.
    acts_ok c.args.self.now c.reserve.new.self c.step.new.self list list c.args.pass.now
    c.step.new.pass c.args.who c.args.deed
    c.piece_told.result (Some (piece_told c.in_ok-piece.piece)) c.in_ok-reserve.ensures.list
    c.in_ok-reserve.ensures.same (ap Some c.piece_told.ensures) (c.step.ensures list)

pub next_piece-requires-clause-may : goal.next_piece-requires-clause-may
next_piece-requires-clause-may c =
    (may_from c.args.self.now c.reserve.new.self c.args.pass.now.number c.args.deed
    c.in_ok-reserve.ensures.list c.in_ok-reserve.ensures.same c.requires.may).may

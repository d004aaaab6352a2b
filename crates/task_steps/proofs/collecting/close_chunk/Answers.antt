use Rattle.std.proofs.Common.{[], Some, sym, subst}
use Rattle.std.proofs.lemmas.Result.{err_from_is_err_and}
use Rattle.world_model.specs.inodes.Acts.{Acts}
use Rattle.inode_events.specs.declared.deed.Deed.TheVariants as deed
use Rattle.inode_events.specs.declared.told.Told.{Told}
use Rattle.world_model.specs.Due.{HashesAfter}
use Rattle.task_steps.proofs.Hashing.{close_piece_left}
use Rattle.task_steps.proofs.collecting.close_chunk.Goals as goal

pub returns-clause-acts : goal.returns-clause-acts
returns-clause-acts c =
    λ list. subst (λ (x : Told). Acts c.args.cell.now c.close_chunk.new.self list list
    c.args.pass.now c.close_chunk.new.pass c.args.who (deed.CloseChunk c.args.file) (Some x))
    (sym c.piece_told.ensures) (c.in_ok-piece.ensures.acts list)

pub returns-clause-hashes : goal.returns-clause-hashes
returns-clause-hashes c =
    subst (λ (x : Told). HashesAfter c.args.cell.now.inode c.close_chunk.new.self.list
    c.gather.new.hash_state (deed.CloseChunk c.args.file) x)
    (sym c.piece_told.ensures)
    (close_piece_left c.args.cell.now.inode c.args.cell.now.list c.args.hash_state.now
    c.gather.new.hash_state c.in_ok-piece.page
    c.requires.hashes c.in_ok-piece.ensures.page c.args.file c.args.who c.close_chunk.new.self.list
    c.in_ok-piece.piece
    (c.in_ok-piece.ensures.acts []).journal c.gather.ensures)

pub returns-in_err-piece-clause-acts : goal.returns-in_err-piece-clause-acts
returns-in_err-piece-clause-acts c =
    let p = err_from_is_err_and c.from_residual.result c.from_residual.ensures.1 in
    rw (p.1) tt

pub returns-in_err-piece-clause-hashes : goal.returns-in_err-piece-clause-hashes
returns-in_err-piece-clause-hashes c =
    let p = err_from_is_err_and c.from_residual.result c.from_residual.ensures.1 in
    rw (p.1) tt

use Rattle.std.proofs.Common.{subst, sym}
use Rattle.std.specs.Prelude.{IfOk}
use Rattle.task_state.specs.Steps.{deed_in}
use Rattle.task_state.specs.declared.step.DueDeed.{DueDeed}
use Rattle.world_model.specs.Due.{HashesTold}
use Rattle.world_model.specs.Tasks.{HashesBefore}
use Rattle.world_model.specs.inodes.Acts.{MayBy}
use Rattle.task_steps.proofs.Leaving.{acts_due}
use Rattle.task_steps.proofs.collecting.collect.Goals as goal

pub returns-in-Chunk-clause-acts : goal.returns-in-Chunk-clause-acts
returns-in-Chunk-clause-acts c =
    acts_due c.args.cell.now c.chunk.new.cell c.args.pass.now c.chunk.new.pass c.args.who
    c.chunk.result c.in-Chunk.is c.chunk.ensures.acts

pub returns-in-CloseTake-clause-acts : goal.returns-in-CloseTake-clause-acts
returns-in-CloseTake-clause-acts c =
    acts_due c.args.cell.now c.close_take.new.cell c.args.pass.now c.close_take.new.pass
    c.args.who c.close_take.result c.in-CloseTake.is c.close_take.ensures.acts

pub returns-in-CloseChunk-clause-acts : goal.returns-in-CloseChunk-clause-acts
returns-in-CloseChunk-clause-acts c =
    acts_due c.args.cell.now c.close_chunk.new.cell c.args.pass.now c.close_chunk.new.pass
    c.args.who c.close_chunk.result c.in-CloseChunk.is c.close_chunk.ensures.acts

pub returns-in-CloseFinish-clause-acts : goal.returns-in-CloseFinish-clause-acts
returns-in-CloseFinish-clause-acts c =
    acts_due c.args.cell.now c.close_finish.new.cell c.args.pass.now c.close_finish.new.pass
    c.args.who c.close_finish.result c.in-CloseFinish.is c.close_finish.ensures.acts

pub chunk-requires-clause-may : goal.chunk-requires-clause-may
chunk-requires-clause-may c =
    subst (λ (x : DueDeed). MayBy c.args.cell.now c.args.pass.now.number (deed_in x)) c.in-Chunk.is
    c.requires.may

pub close_take-requires-clause-may : goal.close_take-requires-clause-may
close_take-requires-clause-may c =
    subst (λ (x : DueDeed). MayBy c.args.cell.now c.args.pass.now.number (deed_in x)) c.in-CloseTake.is
    c.requires.may

pub close_chunk-requires-clause-may : goal.close_chunk-requires-clause-may
close_chunk-requires-clause-may c =
    subst (λ (x : DueDeed). MayBy c.args.cell.now c.args.pass.now.number (deed_in x)) c.in-CloseChunk.is
    c.requires.may

pub close_finish-requires-clause-may : goal.close_finish-requires-clause-may
close_finish-requires-clause-may c =
    subst (λ (x : DueDeed). MayBy c.args.cell.now c.args.pass.now.number (deed_in x)) c.in-CloseFinish.is
    c.requires.may

pub chunk-requires-clause-hashes : goal.chunk-requires-clause-hashes
chunk-requires-clause-hashes c =
    subst (λ (x : DueDeed). HashesBefore c.args.cell.now.inode c.args.cell.now.list
    c.args.hash_state.now (deed_in x)) c.in-Chunk.is c.requires.hashes

pub close_chunk-requires-clause-hashes : goal.close_chunk-requires-clause-hashes
close_chunk-requires-clause-hashes c =
    subst (λ (x : DueDeed). HashesBefore c.args.cell.now.inode c.args.cell.now.list
    c.args.hash_state.now (deed_in x)) c.in-CloseChunk.is c.requires.hashes

pub close_finish-requires-clause-hashes : goal.close_finish-requires-clause-hashes
close_finish-requires-clause-hashes c =
    subst (λ (x : DueDeed). HashesBefore c.args.cell.now.inode c.args.cell.now.list
    c.args.hash_state.now (deed_in x)) c.in-CloseFinish.is c.requires.hashes

pub returns-in-Chunk-clause-hashes : goal.returns-in-Chunk-clause-hashes
returns-in-Chunk-clause-hashes c =
    subst (λ (x : DueDeed). IfOk c.chunk.result (λ o. HashesTold c.args.cell.now.inode
    c.chunk.new.cell.list c.args.hash_state.now c.chunk.new.hash_state (deed_in x) o)) (sym c.in-Chunk.is)
    c.chunk.ensures.hashes

pub returns-in-CloseTake-clause-hashes : goal.returns-in-CloseTake-clause-hashes
returns-in-CloseTake-clause-hashes c =
    subst (λ (x : DueDeed). IfOk c.close_take.result (λ o. HashesTold c.args.cell.now.inode
    c.close_take.new.cell.list c.args.hash_state.now c.close_take.new.hash_state (deed_in x) o)) (sym c.in-CloseTake.is)
    c.close_take.ensures.hashes

pub returns-in-CloseChunk-clause-hashes : goal.returns-in-CloseChunk-clause-hashes
returns-in-CloseChunk-clause-hashes c =
    subst (λ (x : DueDeed). IfOk c.close_chunk.result (λ o. HashesTold c.args.cell.now.inode
    c.close_chunk.new.cell.list c.args.hash_state.now c.close_chunk.new.hash_state (deed_in x) o))
    (sym c.in-CloseChunk.is) c.close_chunk.ensures.hashes

pub returns-in-CloseFinish-clause-hashes : goal.returns-in-CloseFinish-clause-hashes
returns-in-CloseFinish-clause-hashes c =
    subst (λ (x : DueDeed). IfOk c.close_finish.result (λ o. HashesTold c.args.cell.now.inode
    c.close_finish.new.cell.list c.args.hash_state.now c.args.hash_state.now (deed_in x) o)) (sym c.in-CloseFinish.is)
    c.close_finish.ensures.hashes

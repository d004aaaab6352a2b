-- The deed is one of the two that continue a collection.
use Rattle.std.proofs.Common.{List, Some, sym, subst}
use Rattle.std.specs.Prelude.{IfOk}
use Rattle.ima_templates.specs.declared.entry.Entry.{Entry}
use Rattle.inode_cell.specs.Acts.{Acts}
use Rattle.inode_cell.specs.answers.Answers.{piece_told}
use Rattle.task_state.specs.Steps.{deed_in}
use Rattle.task_state.specs.declared.step.DueDeed.{DueDeed}
use Rattle.world_locks.proofs.pages.next_page.Goals as goal

pub returns-in-Chunk-clause-acts : goal.returns-in-Chunk-clause-acts
returns-in-Chunk-clause-acts c =
    subst (λ (x : DueDeed). IfOk c.chunk.result (λ r. (list : List Entry)
    → Acts c.args.cell.now c.chunk.new.self list list c.args.pass.now c.chunk.new.pass c.args.who
    (deed_in x) (Some (piece_told r.0)))) (sym c.in-Chunk.is) c.chunk.ensures.acts

pub returns-in-CloseChunk-clause-acts : goal.returns-in-CloseChunk-clause-acts
returns-in-CloseChunk-clause-acts c =
    subst (λ (x : DueDeed). IfOk c.close_chunk.result (λ r. (list : List Entry)
    → Acts c.args.cell.now c.close_chunk.new.self list list c.args.pass.now
    c.close_chunk.new.pass c.args.who (deed_in x) (Some (piece_told r.0))))
    (sym c.in-CloseChunk.is) c.close_chunk.ensures.acts

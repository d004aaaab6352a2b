use Rattle.std.proofs.Common.{[], subst}
use Rattle.std.proofs.lemmas.Result.{err_from_is_err_and}
use Rattle.world_model.specs.inodes.Acts.{Acts}
use Rattle.inode_events.specs.declared.deed.Deed.TheVariants as deed
use Rattle.world_model.specs.inodes.answers.Answers.{CloseBeginsBy, close_taken_told}
use Rattle.world_model.specs.inodes.answers.declared.answers.CloseTaken.{CloseTaken}
use Rattle.task_steps.proofs.Hashing.{close_left}
use Rattle.task_steps.proofs.collecting.close_take.Goals as goal

pub returns-in-Begun-clause-acts : goal.returns-in-Begun-clause-acts
returns-in-Begun-clause-acts c =
    λ list. subst (λ (x : CloseTaken). Acts c.args.cell.now c.close_take.new.self list list
    c.args.pass.now c.close_take.new.pass c.args.who (deed.CloseTake c.args.file)
    (close_taken_told x)) c.in-Begun.is (c.in_ok-algo.ensures.acts list)

pub returns-in-Dropped-clause-acts : goal.returns-in-Dropped-clause-acts
returns-in-Dropped-clause-acts c =
    λ list. subst (λ (x : CloseTaken). Acts c.args.cell.now c.close_take.new.self list list
    c.args.pass.now c.close_take.new.pass c.args.who (deed.CloseTake c.args.file)
    (close_taken_told x)) c.in-Dropped.is (c.in_ok-algo.ensures.acts list)

pub returns-in-Blocked-clause-acts : goal.returns-in-Blocked-clause-acts
returns-in-Blocked-clause-acts c =
    λ list. subst (λ (x : CloseTaken). Acts c.args.cell.now c.close_take.new.self list list
    c.args.pass.now c.close_take.new.pass c.args.who (deed.CloseTake c.args.file)
    (close_taken_told x)) c.in-Blocked.is (c.in_ok-algo.ensures.acts list)

pub returns-in-Begun-clause-hashes : goal.returns-in-Begun-clause-hashes
returns-in-Begun-clause-hashes c =
    close_left c.args.cell.now.inode c.args.cell.now.list c.close_take.new.self.list c.args.file
    c.args.who
    c.begin.result c.in-Begun.algo (returns-in-Begun-clause-acts c []).journal
    (subst (λ (x : CloseTaken). CloseBeginsBy c.args.cell.now.inode.settings.hash x) c.in-Begun.is
    c.in_ok-algo.ensures.algo)
    c.begin.ensures

pub returns-in_err-algo-clause-acts : goal.returns-in_err-algo-clause-acts
returns-in_err-algo-clause-acts c =
    let p = err_from_is_err_and c.from_residual.result c.from_residual.ensures.1 in
    rw (p.1) tt

pub returns-in_err-algo-clause-hashes : goal.returns-in_err-algo-clause-hashes
returns-in_err-algo-clause-hashes c =
    let p = err_from_is_err_and c.from_residual.result c.from_residual.ensures.1 in
    rw (p.1) tt

use Rattle.std.proofs.Common.{subst}
use Rattle.std.proofs.lemmas.Result.{err_from_is_err_and}
use Rattle.world_model.specs.inodes.Acts.{Acts}
use Rattle.inode_events.specs.declared.deed.Deed.TheVariants as deed
use Rattle.world_model.specs.inodes.answers.Answers.{BeginsBy, taken_told}
use Rattle.world_model.specs.inodes.answers.declared.answers.Taken.{Taken}
use Rattle.inode_events.specs.Integrity.{chosen_algo}
use Rattle.inode_events.specs.NewestFirst.{newest_first}
use Rattle.task_steps.proofs.Hashing.{take_left}
use Rattle.task_steps.proofs.listed.take.Goals as goal

pub returns-in-Begun-clause-hashes : goal.returns-in-Begun-clause-hashes
returns-in-Begun-clause-hashes c =
    take_left c.args.cell.now.inode c.args.cell.now.list c.take.new.self.list c.args.file c.args.who
    c.begin.result c.in-Begun.algo
    (subst (λ (x : Taken). Acts c.args.cell.now c.take.new.self c.args.book.now.list
    c.take.new.book.list c.args.pass.now c.take.new.pass c.args.who (deed.Take c.args.file)
    (taken_told x)) c.in-Begun.is c.in_ok-algo.ensures.acts).journal
    (subst (λ (x : Taken). BeginsBy
    (chosen_algo c.args.cell.now.inode (newest_first c.args.cell.now.list))
    x) c.in-Begun.is c.in_ok-algo.ensures.algo)
    c.begin.ensures

pub returns-in_err-algo-clause-acts : goal.returns-in_err-algo-clause-acts
returns-in_err-algo-clause-acts c =
    let p = err_from_is_err_and c.from_residual.result c.from_residual.ensures.1 in
    rw (p.1) tt

pub returns-in_err-algo-clause-hashes : goal.returns-in_err-algo-clause-hashes
returns-in_err-algo-clause-hashes c =
    let p = err_from_is_err_and c.from_residual.result c.from_residual.ensures.1 in
    rw (p.1) tt

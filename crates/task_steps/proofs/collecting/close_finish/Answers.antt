use Rattle.std.proofs.Common.{Some, sym, subst}
use Rattle.std.proofs.lemmas.Result.{err_from_is_err_and}
use Rattle.world_model.specs.inodes.Acts.{Acts}
use Rattle.inode_events.specs.declared.deed.Deed.TheVariants as deed
use Rattle.inode_events.specs.declared.told.Told.{Told}
use Rattle.task_steps.proofs.collecting.close_finish.Goals as goal

pub returns-clause-acts : goal.returns-clause-acts
returns-clause-acts c =
    λ list. subst (λ (x : Told). Acts c.args.cell.now c.close_finish.new.self list list
    c.args.pass.now c.close_finish.new.pass c.args.who (deed.CloseFinish c.args.file) (Some x))
    (sym c.finished_told.ensures) (c.in_ok-close_finish.ensures.acts list)

pub returns-in_err-close_finish-clause-acts : goal.returns-in_err-close_finish-clause-acts
returns-in_err-close_finish-clause-acts c =
    let p = err_from_is_err_and c.from_residual.result c.from_residual.ensures.1 in
    rw (p.1) tt

pub returns-in_err-close_finish-clause-hashes : goal.returns-in_err-close_finish-clause-hashes
returns-in_err-close_finish-clause-hashes c =
    let p = err_from_is_err_and c.from_residual.result c.from_residual.ensures.1 in
    rw (p.1) tt

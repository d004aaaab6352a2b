-- The lists that are taken out of their locks have the same constants.
use Rattle.std.proofs.lemmas.Result.{err_from_is_err_and}
use Rattle.world_locks.proofs.Locking.{consts_kept}
use Rattle.world_locks.proofs.locks.Locks.into_parts.Goals as goal

pub returns-in_err-unlock_each-clause-keep : goal.returns-in_err-unlock_each-clause-keep
returns-in_err-unlock_each-clause-keep g c =
    let p = err_from_is_err_and c.from_residual.result c.from_residual.ensures.1 in
    rw (p.1) tt

pub returns-in_err-unlock_each-clause-consts : goal.returns-in_err-unlock_each-clause-consts
returns-in_err-unlock_each-clause-consts g c =
    let p = err_from_is_err_and c.from_residual.result c.from_residual.ensures.1 in
    rw (p.1) tt

pub returns-clause-consts : goal.returns-clause-consts
returns-clause-consts g c =
    let own = c.args.self in
    consts_kept g.N.Name.consts
    (record {
      world_inodes = c.unlock_each.new.world_inodes;
      book = c.open-book.result;
      sems = c.open-sems.result;
      rules = c.open-rules.result.0;
      spares = c.open-rules.result.1;
      supers = own.supers;
      settings = own.settings;
      tasks = own.tasks;
      alloc = own.alloc;
    })
    (record {
      world_inodes = c.in_ok-unlock_each.ensures;
      book = c.open-book.ensures.kept;
      sems = c.open-sems.ensures.kept;
      rules = c.open-rules.ensures.kept.rules;
      spares = c.open-rules.ensures.kept.spares;
      supers = own.supers_are;
      settings = own.settings_are;
      tasks = own.tasks_are;
    })

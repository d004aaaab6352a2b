-- The lists and the passes are those that were started, and an early end promises nothing.
use Rattle.std.proofs.Common.{arith}
use Rattle.std.proofs.lemmas.Result.{err_from_is_err_and}
use Rattle.world_start.proofs.cells.start_cells.Goals as goal

pub returns : goal.returns
returns c =
    let listed = c.in_ok-listed.ensures in
    let sems = c.in_ok-sems.ensures in
    let ruled = c.in_ok-ruled.ensures in
    record {
      book = listed.book;
      listed = listed.listed;
      sems = sems.list.0;
      signalled = sems.callers;
      base = ruled.base;
      added = ruled.added;
      numbers = ruled.numbers;
      appended = ruled.appended;
      list_passes = listed.list_passes;
      rule_passes = ruled.rule_passes;
      task_signal_passes = record {
        even = let n = sems.count in omega arith;
        each = sems.passes;
      };
      task_list_passes = listed.task_list_passes;
      task_appenders = ruled.task_appenders;
      spares = ruled.spares;
    }

pub returns-in_err-listed : goal.returns-in_err-listed
returns-in_err-listed c =
    let p = err_from_is_err_and c.from_residual.result c.from_residual.ensures.1 in
    rw (p.1) (record {
      book = tt;
      listed = tt;
      sems = tt;
      signalled = tt;
      base = tt;
      added = tt;
      numbers = tt;
      appended = tt;
      list_passes = tt;
      rule_passes = tt;
      task_signal_passes = tt;
      task_list_passes = tt;
      task_appenders = tt;
      spares = tt;
    })

pub returns-in_err-sems : goal.returns-in_err-sems
returns-in_err-sems c =
    let p = err_from_is_err_and c.from_residual-in_err-sems.result
    c.from_residual-in_err-sems.ensures.1 in
    rw (p.1) (record {
      book = tt;
      listed = tt;
      sems = tt;
      signalled = tt;
      base = tt;
      added = tt;
      numbers = tt;
      appended = tt;
      list_passes = tt;
      rule_passes = tt;
      task_signal_passes = tt;
      task_list_passes = tt;
      task_appenders = tt;
      spares = tt;
    })

pub returns-in_err-ruled : goal.returns-in_err-ruled
returns-in_err-ruled c =
    let p = err_from_is_err_and c.from_residual-in_err-ruled.result
    c.from_residual-in_err-ruled.ensures.1 in
    rw (p.1) (record {
      book = tt;
      listed = tt;
      sems = tt;
      signalled = tt;
      base = tt;
      added = tt;
      numbers = tt;
      appended = tt;
      list_passes = tt;
      rule_passes = tt;
      task_signal_passes = tt;
      task_list_passes = tt;
      task_appenders = tt;
      spares = tt;
    })

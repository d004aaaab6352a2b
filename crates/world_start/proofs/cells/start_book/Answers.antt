use Rattle.std.proofs.Common.{◌+◌, arith, refl}
use Rattle.std.proofs.lemmas.Result.{err_from_is_err_and}
use Rattle.world_start.proofs.Fresh.{fresh_drop, fresh_take}
use Rattle.world_start.proofs.cells.start_book.Goals as goal

pub returns-clause-list_passes : goal.returns-clause-list_passes
returns-clause-list_passes c =
    let book = c.in_ok-book.book in
    fresh_take book.name (λ k. k + 1) c.args.count (c.args.count + c.args.tasks)
    c.in_ok-book.list_passes.items c.split_off.new.self.items (omega arith)
    c.in_ok-task_list_passes.ensures.items
    (record {
      even = let n = c.in_ok-book.ensures.count in omega arith;
      each = c.in_ok-book.ensures.passes;
    })

pub returns-clause-task_list_passes : goal.returns-clause-task_list_passes
returns-clause-task_list_passes c =
    let book = c.in_ok-book.book in
    fresh_drop book.name (λ k. k + 1) c.args.count (c.args.count + c.args.tasks) c.args.tasks
    c.in_ok-book.list_passes.items c.in_ok-task_list_passes.task_list_passes.items refl
    c.in_ok-task_list_passes.ensures.tail
    (record {
      even = let n = c.in_ok-book.ensures.count in omega arith;
      each = c.in_ok-book.ensures.passes;
    })

pub returns-in_err-book : goal.returns-in_err-book
returns-in_err-book c =
    let p = err_from_is_err_and c.from_residual.result c.from_residual.ensures.1 in
    rw (p.1) (record { book = tt; listed = tt; list_passes = tt; task_list_passes = tt })

pub returns-in_err-task_list_passes : goal.returns-in_err-task_list_passes
returns-in_err-task_list_passes c =
    let p = err_from_is_err_and c.from_residual-in_err-task_list_passes.result
    c.from_residual-in_err-task_list_passes.ensures.1 in
    rw (p.1) (record { book = tt; listed = tt; list_passes = tt; task_list_passes = tt })

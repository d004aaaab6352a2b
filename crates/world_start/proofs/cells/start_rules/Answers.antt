use Rattle.std.proofs.Common.{◌+◌, ◌-◌, arith}
use Rattle.std.specs.Prelude.{max}
use Rattle.std.proofs.lemmas.Result.{err_from_is_err_and}
use Rattle.world_start.proofs.Fresh.{below_max, fresh_all, fresh_as, fresh_drop, fresh_take}
use Rattle.world_start.proofs.cells.start_rules.Goals as goal

pub returns-clause-task_appenders : goal.returns-clause-task_appenders
returns-clause-task_appenders c =
    let name = c.in_ok-rules.rules.appended.name in
    let callers = c.appenders_of-appenders.ensures in
    let above = below_max (c.args.tasks + c.args.count) in
    fresh_take name (λ k. k) c.args.tasks c.appenders_of-appenders.result
    c.in_ok-rules.task_appenders.items c.split_off.new.self.items (omega arith)
    c.in_ok-rule_passes.ensures.items
    (fresh_all name (λ k. k) c.appenders_of-appenders.result c.in_ok-rules.task_appenders.items
    c.in_ok-rules.ensures.count c.in_ok-rules.ensures.passes)

pub returns-clause-rule_passes : goal.returns-clause-rule_passes
returns-clause-rule_passes c =
    let name = c.in_ok-rules.rules.appended.name in
    let callers = c.appenders_of-appenders.ensures in
    let above = below_max (c.args.tasks + c.args.count) in
    fresh_take name (λ k. c.args.tasks + k) c.args.count
    (c.appenders_of-appenders.result - c.args.tasks) c.in_ok-rule_passes.rule_passes.items
    c.split_off-2.new.self.items (omega arith) c.in_ok-spares.ensures.items
    (fresh_drop name (λ k. k) c.args.tasks c.appenders_of-appenders.result
    (c.appenders_of-appenders.result - c.args.tasks) c.in_ok-rules.task_appenders.items
    c.in_ok-rule_passes.rule_passes.items (omega arith) c.in_ok-rule_passes.ensures.tail
    (fresh_all name (λ k. k) c.appenders_of-appenders.result c.in_ok-rules.task_appenders.items
    c.in_ok-rules.ensures.count c.in_ok-rules.ensures.passes))

pub returns-clause-spares : goal.returns-clause-spares
returns-clause-spares c =
    let name = c.in_ok-rules.rules.appended.name in
    let callers = c.appenders_of-appenders.ensures in
    let above = below_max (c.args.tasks + c.args.count) in
    let after = fresh_drop name (λ k. c.args.tasks + k) c.args.count
    (c.appenders_of-appenders.result - c.args.tasks)
    (max 1 (c.args.tasks + c.args.count) - (c.args.tasks + c.args.count))
    c.in_ok-rule_passes.rule_passes.items c.in_ok-spares.spares.items (omega arith)
    c.in_ok-spares.ensures.tail
    (fresh_drop name (λ k. k) c.args.tasks c.appenders_of-appenders.result
    (c.appenders_of-appenders.result - c.args.tasks) c.in_ok-rules.task_appenders.items
    c.in_ok-rule_passes.rule_passes.items (omega arith) c.in_ok-rule_passes.ensures.tail
    (fresh_all name (λ k. k) c.appenders_of-appenders.result c.in_ok-rules.task_appenders.items
    c.in_ok-rules.ensures.count c.in_ok-rules.ensures.passes)) in
    fresh_as name (λ k. c.args.tasks + (c.args.count + k)) (λ k. c.args.tasks + c.args.count + k)
    (max 1 (c.args.tasks + c.args.count) - (c.args.tasks + c.args.count))
    c.in_ok-spares.spares.items (λ k. omega arith) after

pub returns-in_err-rules : goal.returns-in_err-rules
returns-in_err-rules c =
    let p = err_from_is_err_and c.from_residual.result c.from_residual.ensures.1 in
    rw (p.1) (record {
      base = tt;
      added = tt;
      numbers = tt;
      appended = tt;
      rule_passes = tt;
      task_appenders = tt;
      spares = tt;
    })

pub returns-in_err-rule_passes : goal.returns-in_err-rule_passes
returns-in_err-rule_passes c =
    let p = err_from_is_err_and c.from_residual-in_err-rule_passes.result
    c.from_residual-in_err-rule_passes.ensures.1 in
    rw (p.1) (record {
      base = tt;
      added = tt;
      numbers = tt;
      appended = tt;
      rule_passes = tt;
      task_appenders = tt;
      spares = tt;
    })

pub returns-in_err-spares : goal.returns-in_err-spares
returns-in_err-spares c =
    let p = err_from_is_err_and c.from_residual-in_err-spares.result
    c.from_residual-in_err-spares.ensures.1 in
    rw (p.1) (record {
      base = tt;
      added = tt;
      numbers = tt;
      appended = tt;
      rule_passes = tt;
      task_appenders = tt;
      spares = tt;
    })

use Rattle.order_runs.proofs.Layering.{ending, going}
use Rattle.order_runs.proofs.Stopping.{overruns, told}
use Rattle.order_runs.proofs.rows.advance_one.Goals as goal

pub returns-in_ok-add_row-clause-advanced : goal.returns-in_ok-add_row-clause-advanced
returns-in_ok-add_row-clause-advanced c =
    ending c.args.part.now c.args.way.now c.requires.kept c.args.next.now.items
    c.spread.new.next.items c.in_ok-any.any c.in_ok-any.ensures c.if-not-any.true
    c.args.rows.now.items c.add_row.new.rows.items c.in_ok-row.row c.in_ok-row.ensures.counted
    (c.in_ok-row.ensures.outcome c.args.part.now c.requires.kept) c.in_ok-add_row.ensures.added

pub returns-else-not-any-clause-advanced : goal.returns-else-not-any-clause-advanced
returns-else-not-any-clause-advanced c =
    going c.args.part.now c.args.way.now c.requires.kept c.args.next.now.items
    c.spread.new.next.items c.in_ok-any.any c.in_ok-any.ensures c.if-not-any.false
    c.args.rows.now.items

pub returns-in_err-add_row-clause-too_many : goal.returns-in_err-add_row-clause-too_many
returns-in_err-add_row-clause-too_many c =
    told _ _ c.in_err-add_row.field-0.0 c.from_residual-in_err-add_row.result
    c.in_err-add_row.ensures.too_many
    (overruns c.args.part.now c.args.way.now c.requires.kept c.args.next.now.items
    c.spread.new.next.items c.in_ok-any.any c.in_ok-any.ensures c.if-not-any.true
    c.args.rows.now.items c.in_ok-row.row c.in_ok-row.ensures.counted)
    c.from_residual-in_err-add_row.ensures.1

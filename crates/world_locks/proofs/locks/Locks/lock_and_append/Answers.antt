-- A rule appended by the task's pass of the rules.
use Rattle.world_locks.proofs.Opening.{append_kept, appends_opened, are_opened}
use Rattle.world_locks.proofs.locks.Locks.lock_and_append.Goals as goal

pub append-requires-clause-name : goal.append-requires-clause-name
append-requires-clause-name g c κs within =
    let p = c.passes.inside in
    (are_opened p.inodes.items p.sems p.book p.rules c.args.passes.now c.passes.view_is
    c.args.who g.N.Name.consts c.requires).rules.0

pub append-requires-clause-number : goal.append-requires-clause-number
append-requires-clause-number g c κs within =
    let p = c.passes.inside in
    (are_opened p.inodes.items p.sems p.book p.rules c.args.passes.now c.passes.view_is
    c.args.who g.N.Name.consts c.requires).rules.1

pub returns-clause-appends : goal.returns-clause-appends
returns-clause-appends g c =
    let p = c.passes.inside in
    appends_opened p.inodes.items p.sems p.book p.rules c.args.passes.now c.passes.view_is
    c.args.who c.append.new.pass (record { who = c.args.who; rule = c.args.rule.now })
    c.append.result c.append.ensures.met

pub returns-clause-err : goal.returns-clause-err
returns-clause-err g c =
    let p = c.passes.inside in
    append_kept p.inodes.items p.sems p.book p.rules c.args.passes.now c.passes.view_is
    c.args.who c.append.new.pass c.append.result c.append.ensures.err

-- A post or a wait by the task's pass of the semaphores.
use Rattle.world_locks.proofs.Opening.{are_opened, signals_opened}
use Rattle.world_locks.proofs.locks.Locks.lock_and_signal.Goals as goal

pub signal-requires-clause-name : goal.signal-requires-clause-name
signal-requires-clause-name g c κs within =
    let p = c.passes.inside in
    (are_opened p.inodes.items p.sems p.book p.rules c.args.passes.now c.passes.view_is
    c.args.who g.N.Name.consts c.requires).sems.0

pub signal-requires-clause-number : goal.signal-requires-clause-number
signal-requires-clause-number g c κs within =
    let p = c.passes.inside in
    (are_opened p.inodes.items p.sems p.book p.rules c.args.passes.now c.passes.view_is
    c.args.who g.N.Name.consts c.requires).sems.1

pub returns : goal.returns
returns g c =
    let p = c.passes.inside in
    signals_opened p.inodes.items p.sems p.book p.rules c.args.passes.now c.passes.view_is
    c.args.who c.signal.new.pass c.args.deed c.signal.result c.signal.ensures

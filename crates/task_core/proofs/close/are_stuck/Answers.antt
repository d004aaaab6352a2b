use Rattle.std.specs.List.{list_all}
use Rattle.inode_events.specs.NewestFirst.{newest_first}
use Rattle.inode_events.specs.Semaphores.{left}
use Rattle.world_close.specs.Leaves.{done_by, rests}
use Rattle.task_core.proofs.Closing.{stuck_when}
use Rattle.task_core.proofs.close.are_stuck.Goals as goal

pub returns-then-not-are_done : goal.returns-then-not-are_done
returns-then-not-are_done c =
    stuck_when c.are_done.result c.all_rest.result (list_all done_by c.args.tasks.now)
    (list_all (rests (λ sem. left sem (newest_first c.args.sems.now.list))) c.args.tasks.now)
    c.if-not-are_done.true c.are_done.ensures c.all_rest.ensures

-- A task that has made no step is a task of every world whose passes it has.
use Rattle.task_core.proofs.Fresh.{new_task}
use Rattle.task_core.proofs.task.Task.new.Goals as goal

pub returns-clause-task : goal.returns-clause-task
returns-clause-task c =
    new_task c.args.number c.in_ok-task_state.task_state c.args.passes c.args.cred
    c.args.program.items
    c.in_ok-task_state.ensures.program c.in_ok-task_state.ensures.position
    c.in_ok-task_state.ensures.checked

-- the text of the tasks that are left is still to come
use Rattle.std.proofs.Common.{◌≡◌, ◌-◌, ◌++◌}
use Rattle.load_gen.specs.Script.{tasks}
use Rattle.load_gen.proofs.text.push_tasks.Given as goal

abbrev pub invariant-loop-task : goal.invariant-loop-task
invariant-loop-task l =
    l.out.items ++ tasks (16 - l.task) l.task l.draws.state ≡ l.fn.out.items
    ++ tasks 16 0 l.fn.draws.state

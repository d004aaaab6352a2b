-- the lines of the tasks that are left are still to come
use Rattle.std.proofs.Common.{◌≡◌, ◌++◌, drop}
use Rattle.order_outcomes.specs.Outcome.{tasks_text}
use Rattle.order_outcomes.proofs.outcome.push_tasks.Given as goal

abbrev pub invariant-loop-number : goal.invariant-loop-number
invariant-loop-number l =
    l.out.items
    ++ tasks_text l.ended.list l.ended.inodes l.number (drop l.number l.tasks)
    ≡ l.fn.out.items ++ tasks_text l.ended.list l.ended.inodes 0 l.tasks

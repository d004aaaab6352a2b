-- the parts so far are numbers of tasks
use Rattle.std.proofs.Common.{◌≡◌, is_some, length}
use Rattle.order_top.specs.Words.{dotted, tasks_of}
use Rattle.order_top.proofs.words.are_tasks.Given as goal

abbrev pub invariant-loop-digits : goal.invariant-loop-digits
invariant-loop-digits l =
    is_some (tasks_of (dotted l.rest)) ≡ is_some (tasks_of (dotted l.word))

abbrev pub decreases-loop-digits : goal.decreases-loop-digits
decreases-loop-digits l = length l.rest

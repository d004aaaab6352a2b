-- the tasks so far, before those of the parts that are left
use Rattle.std.proofs.Common.{◌≡◌, length}
use Rattle.order_top.specs.Words.{dotted, tasks_of}
use Rattle.order_top.proofs.Wording.{onto}
use Rattle.order_top.proofs.words.tasks_of.Given as goal

abbrev pub invariant-loop-digits : goal.invariant-loop-digits
invariant-loop-digits l = onto l.tasks.items (tasks_of (dotted l.rest)) ≡ tasks_of (dotted l.word)

abbrev pub decreases-loop-digits : goal.decreases-loop-digits
decreases-loop-digits l = length l.rest

-- the lines of the calls that are left are still to come
use Rattle.std.proofs.Common.{◌≡◌, ◌++◌, drop}
use Rattle.order_outcomes.specs.Outcome.{calls_text}
use Rattle.order_outcomes.proofs.outcome.push_calls.Given as goal

abbrev pub invariant-loop-call : goal.invariant-loop-call
invariant-loop-call l =
    l.out.items
    ++ calls_text l.ended.list l.ended.inodes l.task l.call (drop l.call l.replies)
    ≡ l.fn.out.items ++ calls_text l.ended.list l.ended.inodes l.task 0 l.replies

-- the turns that are left are still to come
use Rattle.std.proofs.Common.{◌≡◌, ◌++◌, drop}
use Rattle.order_top.specs.Text.{turns_text}
use Rattle.order_top.proofs.text.push_turns.Given as goal

abbrev pub invariant-loop-task : goal.invariant-loop-task
invariant-loop-task l =
    l.out.items ++ turns_text (drop l.task-index l.turns) ≡ l.fn.out.items ++ turns_text l.turns

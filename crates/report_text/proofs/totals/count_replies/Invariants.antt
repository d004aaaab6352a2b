-- the replies so far, and bounds of their numbers
use Rattle.std.proofs.Common.{◌≡◌, ◌≤◌, ◌*◌, ◌^◌, take}
use Rattle.std.specs.Prelude.{not}
use Rattle.report_text.specs.Summary.{is_ok_reply, reply_count}
use Rattle.report_text.proofs.totals.count_replies.Given as goal

abbrev pub invariant-loop-task : goal.invariant-loop-task
invariant-loop-task l = record {
  ok : l.ok ≡ reply_count is_ok_reply (take l.task-index l.tasks);
  refused : l.refused ≡ reply_count (λ r. not (is_ok_reply r)) (take l.task-index l.tasks);
  few_ok : l.ok ≤ l.task-index * 2 ^ 64;
  few_refused : l.refused ≤ l.task-index * 2 ^ 64;
}

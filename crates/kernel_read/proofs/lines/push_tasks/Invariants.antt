-- the lines of the tasks that are left are still to come
use Rattle.std.proofs.Common.{◌≡◌, ◌+◌, ◌≤◌, ◌++◌, drop, length, vec_len}
use Rattle.script_text.specs.events.forms.Words.{text_of}
use Rattle.kernel_read.specs.Places.{calls_in}
use Rattle.kernel_read.specs.Table.{task_lines}
use Rattle.kernel_read.proofs.lines.push_tasks.Given as goal

abbrev pub invariant-loop-task : goal.invariant-loop-task
invariant-loop-task l = record {
  text : l.out.items
      ++ text_of (task_lines l.inodes l.task (calls_in (drop l.task l.tasks)) (drop l.task l.ended))
      ≡ l.initial.out.items ++ text_of (task_lines l.inodes 0 (calls_in l.tasks) l.ended);
  count : l.lines
      + length (task_lines l.inodes l.task (calls_in (drop l.task l.tasks)) (drop l.task l.ended))
      ≡ length (task_lines l.inodes 0 (calls_in l.tasks) l.ended);
  grows : vec_len l.initial.out + l.lines ≤ vec_len l.out;
}

-- the lines of the calls that are left are still to come
use Rattle.std.proofs.Common.{◌≡◌, ◌+◌, ◌≤◌, ◌++◌, drop, length, vec_len}
use Rattle.script_text.specs.events.forms.Words.{text_of}
use Rattle.kernel_read.specs.Table.{call_lines}
use Rattle.kernel_read.proofs.lines.push_task.Given as goal

abbrev pub invariant-loop-call : goal.invariant-loop-call
invariant-loop-call l = record {
  text : l.out.items
      ++ text_of (call_lines l.inodes l.task l.call (drop l.call l.calls) (drop l.call l.replies))
      ≡ l.initial.out.items ++ text_of (call_lines l.inodes l.task 0 l.calls l.replies);
  count : l.lines
      + length (call_lines l.inodes l.task l.call (drop l.call l.calls) (drop l.call l.replies))
      ≡ length (call_lines l.inodes l.task 0 l.calls l.replies);
  grows : vec_len l.initial.out + l.lines ≤ vec_len l.out;
}

-- the lines of the tasks that are left are still to come
use Rattle.std.proofs.Common.{◌≡◌, ◌++◌, drop}
use Rattle.text_forms.specs.Words.{text_of}
use Rattle.report_text.specs.Report.{all_task_lines}
use Rattle.report_text.proofs.tasks.push_tasks.Given as goal

abbrev pub invariant-loop-number : goal.invariant-loop-number
invariant-loop-number l =
    l.out.items ++ text_of (all_task_lines l.number (drop l.number l.tasks))
    ≡ l.fn.out.items ++ text_of (all_task_lines 0 l.tasks)

-- The tasks of a script are also those of a script with more files.
use Rattle.std.proofs.Common.{◌≡◌, ℕ, ◌≤◌, true, List}
use Rattle.std.specs.List.{list_all}
use Rattle.text_forms.proofs.Visible.{all_weaker}
use Rattle.call_lines.proofs.Holding.{both_true, left_true, right_true}
use Rattle.call_lines.proofs.MoreFiles.{line_call_more}
use Rattle.script_text.specs.Forms.{AreTasks, is_cred, is_line_call, is_task}
use Rattle.script_text.specs.declared.blocks.TaskBlock.{TaskBlock}

task_of_more : (n m : ℕ) → n ≤ m → (t : TaskBlock) → is_task n t ≡ true → is_task m t ≡ true
task_of_more n m le t h =
    both_true (is_cred t.cred) (list_all (is_line_call m) t.calls)
    (left_true (is_cred t.cred) (list_all (is_line_call n) t.calls) h)
    (all_weaker (is_line_call n) (is_line_call m) (line_call_more n m le) t.calls
    (right_true (is_cred t.cred) (list_all (is_line_call n) t.calls) h))

pub tasks_of_more : (n m : ℕ) → n ≤ m → (tasks : List TaskBlock) → AreTasks n tasks
    → AreTasks m tasks
tasks_of_more n m le tasks h = record {
  forms = all_weaker (is_task n) (is_task m) (task_of_more n m le) tasks h.forms;
  few = h.few;
}

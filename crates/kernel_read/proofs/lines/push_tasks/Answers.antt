use Rattle.std.proofs.Common.{List, ◌≡◌, ◌+◌, ◌<◌, ◌++◌, length, drop, sym, ◌∙◌, ap, refl, arith}
use Rattle.std.specs.Prelude.{slice_get}
use Rattle.script_text.specs.events.forms.Words.{text_of}
use Rattle.script_text.specs.steps.declared.call.Call.{Call}
use Rattle.report_text.specs.Words.{Line}
use Rattle.run_laws.specs.model.EndedValue.{EndedTaskValue}
use Rattle.kernel_read.specs.Places.{calls_in}
use Rattle.kernel_read.specs.Table.{call_lines, task_lines}
use Rattle.kernel_read.proofs.Printing.{count_end, count_on, no_tasks, pairs_end, pairs_more, row_has, row_within, text_end, text_on}
use Rattle.kernel_read.proofs.lines.push_tasks.Goals as goal

pub loop-task-init : goal.loop-task-init
loop-task-init c = record { text = refl; count = omega arith; grows = omega arith }

pub bounds-rows-task : goal.bounds-rows-task
bounds-rows-task c =
    row_within c.args.tasks.now c.args.rows.now c.loop-task.task c.requires.shape
    (omega (arith, c.min-task-end.ensures, c.loop-task-test.true))

pub push_task-requires : goal.push_task-requires
push_task-requires c =
    let a : c.loop-task.task < length c.args.tasks.now =
    omega (arith, c.min-task-end.ensures, c.loop-task-test.true) in
    λ k x e. row_has c.args.tasks.now c.args.inodes.now c.args.rows.now c.loop-task.task
    c.index-tasks-task.result c.index-rows-task.result c.requires a c.index-tasks-task.is
    c.index-rows-task.is k x
    (sym (ap (λ (l : List Call). slice_get l k) c.as_slice.ensures) ∙ e)

pub loop-task-preserved : goal.loop-task-preserved
loop-task-preserved c =
    let a : c.loop-task.task < length c.args.tasks.now =
    omega (arith, c.min-task-end.ensures, c.loop-task-test.true) in
    let b : c.loop-task.task < length c.args.ended.now =
    omega (arith, c.min-task-end.ensures, c.loop-task-test.true) in
    let parts : task_lines c.args.inodes.now c.loop-task.task
    (calls_in (drop c.loop-task.task c.args.tasks.now)) (drop c.loop-task.task c.args.ended.now)
    ≡ call_lines c.args.inodes.now c.loop-task.task 0 c.index-tasks-task.result.calls
    c.index-ended-task.result.replies
    ++ task_lines c.args.inodes.now (c.loop-task.task + 1)
    (calls_in (drop (c.loop-task.task + 1) c.args.tasks.now))
    (drop (c.loop-task.task + 1) c.args.ended.now) =
    pairs_more (λ n ts es. task_lines c.args.inodes.now n (calls_in ts) es)
    (λ n t e. call_lines c.args.inodes.now n 0 t.calls e.replies) (λ n t ts e es. refl)
    c.args.tasks.now c.args.ended.now c.loop-task.task c.index-tasks-task.result
    c.index-ended-task.result a b c.index-tasks-task.is c.index-ended-task.is in
    let replies : c.as_slice-in-loop-task.result.now ≡ c.index-ended-task.result.replies =
    c.as_slice-in-loop-task.ensures.value
    ∙ ap (λ (t : EndedTaskValue). t.replies) c.done.view_is in
    let lines : call_lines c.args.inodes.now c.loop-task.task 0 c.as_slice.result.now
    c.as_slice-in-loop-task.result.now
    ≡ call_lines c.args.inodes.now c.loop-task.task 0 c.index-tasks-task.result.calls
    c.index-ended-task.result.replies =
    (λ i. call_lines c.args.inodes.now c.loop-task.task 0 (c.as_slice.ensures i) (replies i)) in
    record {
      text = text_on _ c.loop-task.out.items c.push_task.new.out.items _ _ _
          c.loop-task.invariant.text parts
          (c.in_ok-lines.ensures.text ∙ ap (λ (l : List Line). c.loop-task.out.items ++ text_of l)
          lines);
      count = count_on c.loop-task.lines c.in_ok-lines.field-0 _ _ _ _
          c.loop-task.invariant.count parts
          (c.in_ok-lines.ensures.count ∙ ap (λ (l : List Line). length l) lines);
      grows = omega (arith, c.loop-task.invariant.grows, c.in_ok-lines.ensures.grows);
    }

pub returns-clause-text : goal.returns-clause-text
returns-clause-text c =
    text_end _ c.loop-task.out.items _
    (pairs_end (λ n ts es. task_lines c.args.inodes.now n (calls_in ts) es) (λ n es. refl)
    (no_tasks c.args.inodes.now) c.args.tasks.now c.args.ended.now c.loop-task.task
    (omega (arith, c.min-task-end.ensures, c.loop-task-test.false))) c.loop-task.invariant.text

pub returns-clause-count : goal.returns-clause-count
returns-clause-count c =
    count_end c.loop-task.lines _ _
    (pairs_end (λ n ts es. task_lines c.args.inodes.now n (calls_in ts) es) (λ n es. refl)
    (no_tasks c.args.inodes.now) c.args.tasks.now c.args.ended.now c.loop-task.task
    (omega (arith, c.min-task-end.ensures, c.loop-task-test.false))) c.loop-task.invariant.count

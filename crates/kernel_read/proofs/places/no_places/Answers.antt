use Rattle.std.proofs.Common.{List, ◌≡◌, ◌∷◌, [], ◌++◌, Option, None, length, take, sym, ◌∙◌, ◌+◌, ap, subst, replicate}
use Rattle.script_text.specs.steps.declared.call.Call.{Call}
use Rattle.script_text.specs.steps.templates.declared.entry.Placed.{Placed}
use Rattle.kernel_read.specs.Places.{HasShape, calls_in, cell}
use Rattle.kernel_read.proofs.Cells.{calls_more, empty_more, rows_more}
use Rattle.kernel_read.proofs.places.no_places.Goals as goal

pub loop-task-preserved : goal.loop-task-preserved
loop-task-preserved c =
    let row : c.in_ok-new.field-0 ≡ replicate (length c.task-item.result.calls) None =
    c.in_ok-new.ensures ∙ ap (λ (l : List Call). replicate (length l) None) c.as_slice.ensures in
    record {
      shape = subst (λ (rows : List (List (Option Placed))). HasShape
          (calls_in (take (c.loop-task.task-index + 1) c.args.tasks.now)) rows)
          (sym c.in_ok-push.ensures.items)
          (subst (λ (tasks : List (List Call)). HasShape tasks
          (c.loop-task.rows.items ++ c.in_ok-new.field-0 ∷ []))
          (sym (calls_more c.args.tasks.now c.loop-task.task-index c.task-item.result
          c.loop-task-test.true c.task-item.is))
          (rows_more (calls_in (take c.loop-task.task-index c.args.tasks.now))
          c.loop-task.rows.items c.task-item.result.calls c.in_ok-new.field-0
          c.loop-task.invariant.shape row));
      none = λ n k. ap (λ (rows : List (List (Option Placed))). cell rows n k)
          c.in_ok-push.ensures.items
          ∙ empty_more c.loop-task.rows.items c.in_ok-new.field-0
          (length c.task-item.result.calls) row c.loop-task.invariant.none n k;
    }

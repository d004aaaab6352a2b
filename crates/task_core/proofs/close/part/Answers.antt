-- Both lists grow by what the next task leaves, and an early end promises nothing of the parts.
use Rattle.std.proofs.Common.{◌≡◌, List, [], ◌∷◌, ◌++◌, map, ap, sym, ◌∙◌}
use Rattle.std.proofs.lemmas.List.{map-append}
use Rattle.std.proofs.lemmas.Result.{err_from_is_err_and}
use Rattle.run_model.specs.EndedValue.{EndedTaskValue}
use Rattle.world_model.specs.Tasks.{PassesValue, Tasked}
use Rattle.world_close.specs.Leaves.{task_left}
use Rattle.task_core.proofs.close.part.Goals as goal

-- what one more gives was appended
more : {A B : Type 0} {now next : List B} (f : A → B) (xs : List A) (x : A) → now ≡ map f xs
    → next ≡ now ++ f x ∷ [] → next ≡ map f (xs ++ x ∷ [])
more {A} {B} f xs x so_far one =
    one ∙ (ap (λ (l : List B). l ++ f x ∷ []) so_far ∙ sym (map-append f xs (x ∷ [])))

pub returns-in_err-push-clause-passes : goal.returns-in_err-push-clause-passes
returns-in_err-push-clause-passes c =
    let p = err_from_is_err_and c.from_residual.result c.from_residual.ensures.1 in
    rw (p.1) tt

pub returns-in_err-push-clause-ended : goal.returns-in_err-push-clause-ended
returns-in_err-push-clause-ended c =
    let p = err_from_is_err_and c.from_residual.result c.from_residual.ensures.1 in
    rw (p.1) tt

pub returns-in_err-push-2-clause-passes : goal.returns-in_err-push-2-clause-passes
returns-in_err-push-2-clause-passes c =
    let p = err_from_is_err_and c.from_residual-in_err-push-2.result
    c.from_residual-in_err-push-2.ensures.1 in
    rw (p.1) tt

pub returns-in_err-push-2-clause-ended : goal.returns-in_err-push-2-clause-ended
returns-in_err-push-2-clause-ended c =
    let p = err_from_is_err_and c.from_residual-in_err-push-2.result
    c.from_residual-in_err-push-2.ensures.1 in
    rw (p.1) tt

pub loop-task-preserved : goal.loop-task-preserved
loop-task-preserved c =
    let old = c.loop-task.invariant in
    let xs = c.loop-task.yielded in
    let x = c.in-Some.task in
    let own = c.into_parts-own.ensures in
    record {
      passes = more (λ (t : Tasked). t.passes) xs x old.passes
          (c.in_ok-push.ensures.items
          ∙ ap (λ (p : PassesValue). c.loop-task.passes.items ++ p ∷ []) own.passes);
      ended = more task_left xs x old.ended
          (c.in_ok-push-2.ensures.items
          ∙ ap (λ (e : EndedTaskValue). c.loop-task.ended.items ++ e ∷ []) own.ended);
    }

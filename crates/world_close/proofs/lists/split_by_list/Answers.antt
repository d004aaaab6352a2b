use Rattle.std.proofs.Common.{◌≡◌, List, [], ◌∷◌, ◌++◌, map, ap, sym, ◌∙◌}
use Rattle.std.proofs.lemmas.List.{map-append}
use Rattle.std.proofs.lemmas.Result.{err_from_is_err_and}
use Rattle.world_model.specs.Tasks.{PassesValue}
use Rattle.world_close.proofs.lists.split_by_list.Goals as goal

-- what one more gives was appended
more : {A B : Type 0} {now next : List B} (f : A → B) (xs : List A) (x : A) → now ≡ map f xs
    → next ≡ now ++ f x ∷ [] → next ≡ map f (xs ++ x ∷ [])
more {A} {B} f xs x so_far one =
    one ∙ (ap (λ (l : List B). l ++ f x ∷ []) so_far ∙ sym (map-append f xs (x ∷ [])))

pub loop-one-preserved : goal.loop-one-preserved
loop-one-preserved c =
    let old = c.loop-one.invariant in
    let pushed = c.in_ok-push.ensures in
    let xs = c.loop-one.yielded in
    let x = c.in-Some.one in
    record {
      rows = more (λ (q : PassesValue). q.inodes) xs x old.rows pushed.rows;
      sems = more (λ (q : PassesValue). q.sems) xs x old.sems pushed.sems;
      book = more (λ (q : PassesValue). q.book) xs x old.book pushed.book;
      rules = more (λ (q : PassesValue). q.rules) xs x old.rules pushed.rules;
    }

pub returns-in_err-push : goal.returns-in_err-push
returns-in_err-push c =
    let p = err_from_is_err_and c.from_residual.result c.from_residual.ensures.1 in
    rw (p.1) (record { rows = tt; sems = tt; book = tt; rules = tt })

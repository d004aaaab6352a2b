use Rattle.std.proofs.Common.{◌≡◌, ◌∙◌, ℕ, List, Option, ap, false, is_some, not, sym, true}
use Rattle.order_top.specs.Words.{dotted, task_of, tasks_of}
use Rattle.order_top.proofs.Wording.{some_last, some_more, some_none}
use Rattle.order_top.proofs.words.are_tasks.Goals as goal

pub loop-digits-preserved : goal.loop-digits-preserved
loop-digits-preserved c =
    let named : is_some (task_of c.in-Some.digits.now) ≡ true =
    ap (λ (o : Option ℕ). is_some o) (sym c.task_of.ensures)
    ∙ c.is_none.ensures ∙ ap not c.if-is_none.false in
    sym (some_more c.in-Some.digits.now (dotted c.in-Some.after.now) named)
    ∙ ap (λ (ws : List (List ℕ)). is_some (tasks_of ws)) (sym c.in-Some.ensures.parts)
    ∙ c.loop-digits.invariant

pub returns-then-is_none : goal.returns-then-is_none
returns-then-is_none c =
    let none : is_some (task_of c.in-Some.digits.now) ≡ false =
    ap (λ (o : Option ℕ). is_some o) (sym c.task_of.ensures)
    ∙ c.is_none.ensures ∙ ap not c.if-is_none.true in
    sym (some_none c.in-Some.digits.now (dotted c.in-Some.after.now) none)
    ∙ ap (λ (ws : List (List ℕ)). is_some (tasks_of ws)) (sym c.in-Some.ensures.parts)
    ∙ c.loop-digits.invariant

pub returns : goal.returns
returns c =
    c.is_some.ensures
    ∙ ap (λ (o : Option ℕ). is_some o) c.task_of-last.ensures
    ∙ sym (some_last c.loop-digits.rest.now)
    ∙ ap (λ (ws : List (List ℕ)). is_some (tasks_of ws)) (sym c.in_default.ensures.parts)
    ∙ c.loop-digits.invariant

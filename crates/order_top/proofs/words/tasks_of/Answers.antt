use Rattle.std.proofs.Common.{◌≡◌, ◌∙◌, ℕ, List, ap, subst}
use Rattle.order_top.specs.Words.{dotted, tasks_of}
use Rattle.order_top.proofs.Wording.{ends, goes_on, onto, onto_none, stops}
use Rattle.order_top.proofs.words.tasks_of.Goals as goal

pub loop-digits-init : goal.loop-digits-init
loop-digits-init c =
    ap (λ (ts : List ℕ). onto ts (tasks_of (dotted c.args.word.now))) c.new-tasks.ensures.items
    ∙ onto_none (tasks_of (dotted c.args.word.now))

pub loop-digits-preserved : goal.loop-digits-preserved
loop-digits-preserved c =
    goes_on c.loop-digits.tasks.items c.in-Some.digits.now (dotted c.in-Some.after.now)
    (tasks_of (dotted c.args.word.now))
    (subst (λ (ws : List (List ℕ)). onto c.loop-digits.tasks.items (tasks_of ws)
    ≡ tasks_of (dotted c.args.word.now)) c.in-Some.ensures.parts c.loop-digits.invariant)
    c.in-Some-2.longer.items (rw c.in-Some-2.is at c.in_ok-longer.ensures)

pub returns-in-None : goal.returns-in-None
returns-in-None c =
    stops c.loop-digits.tasks.items c.in-Some.digits.now (dotted c.in-Some.after.now)
    (tasks_of (dotted c.args.word.now))
    (subst (λ (ws : List (List ℕ)). onto c.loop-digits.tasks.items (tasks_of ws)
    ≡ tasks_of (dotted c.args.word.now)) c.in-Some.ensures.parts c.loop-digits.invariant)
    (rw c.in-None.is at c.in_ok-longer.ensures)

pub returns : goal.returns
returns c =
    ends c.loop-digits.tasks.items c.loop-digits.rest.now (tasks_of (dotted c.args.word.now)) _
    (subst (λ (ws : List (List ℕ)). onto c.loop-digits.tasks.items (tasks_of ws)
    ≡ tasks_of (dotted c.args.word.now)) c.in_default.ensures.parts c.loop-digits.invariant)
    c.in_ok-all.ensures

-- The own pass is the first of those that the list gives.
use Rattle.std.proofs.Common.{◌≡◌, List, ◌∷◌, refl, sym, ap, subst, ◌∙◌, arith}
use Rattle.grow_list.specs.Shown.{HasEach, Passed, fresh}
use Rattle.grow_list.proofs.Others.{HasOthers-rest, first_is, rest_fresh, split_first}
use Rattle.inode_events.specs.declared.told.Event.{Event}
use Rattle.semaphore_cell.proofs.Keeping.{IsSemaphores-start}
use Rattle.semaphore_cell.proofs.cell.SemaphoreCell.start.Goals as goal

own_is : (c : goal.After-zeros) → c.remove-own.result ≡ fresh c.in_ok-journal.journal.name 0
own_is c =
    first_is c.in_ok-journal.passes.items c.remove-own.result (fresh c.in_ok-journal.journal.name 0)
    (c.in_ok-journal.ensures.passes 0 (omega (arith, c.requires))) c.remove-own.ensures.value

split : (c : goal.After-zeros) → c.in_ok-journal.passes.items ≡ c.remove-own.result
    ∷ c.remove-own.new.self.items
split c =
    split_first c.in_ok-journal.passes.items c.remove-own.result
    (fresh c.in_ok-journal.journal.name 0)
    (c.in_ok-journal.ensures.passes 0 (omega (arith, c.requires))) (own_is c)
    ∙ ap (λ (rest : List (Passed Event)). c.remove-own.result ∷ rest)
    (sym c.remove-own.ensures.items)

pub invariant_of-cell : goal.invariant_of-cell
invariant_of-cell c =
    IsSemaphores-start _ c.zeros.ensures c.in_ok-journal.ensures.list.0
    c.in_ok-journal.ensures.list.1
    (ap (λ (p : Passed Event). p.name) (own_is c)) (ap (λ (p : Passed Event). p.number) (own_is c))
    (ap (λ (p : Passed Event). p.mine) (own_is c))

pub returns-clause-passes : goal.returns-clause-passes
returns-clause-passes c =
    rest_fresh c.in_ok-journal.passes.items c.remove-own.new.self.items c.remove-own.result
    c.in_ok-journal.journal.name
    c.in_ok-journal.journal.name c.args.callers (split c) c.in_ok-journal.ensures.count refl
    c.in_ok-journal.ensures.passes

pub returns-clause-others : goal.returns-clause-others
returns-clause-others c =
    HasOthers-rest c.in_ok-journal.journal c.in_ok-journal.journal c.remove-own.result
    c.remove-own.new.self.items refl refl
    (ap (λ (p : Passed Event). p.number) (own_is c))
    (subst (HasEach c.in_ok-journal.journal) (split c) c.in_ok-journal.ensures.each)

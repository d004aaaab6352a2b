-- The effect of a look on a growing list and on the pass that looks.
use Rattle.std.proofs.Common.{◌≡◌, List, [], sym, ◌∙◌, subst}
use Rattle.std.proofs.lemmas.List.{append-nil}
use mathlib.Core.List.{IsPrefix}
use Rattle.grow_list.specs.Shown.{Grown, HasItsOwn, IsSameList, Passed}
use Rattle.world_locks.specs.worlds.Steps.{Adds}

-- the pass has seen the list, and both are otherwise as they were
pub record PassSees {E : Type 0} (g g2 : Grown E) (q q2 : Passed E) : Type 0 where
  pub same : IsSameList g g2
  pub before : IsPrefix q.seen g.list
  pub seen : q2.seen ≡ g2.list
  pub mine : q2.mine ≡ q.mine
  pub own : HasItsOwn g2 q2
  pub pass : (q2.name ≡ q.name) × (q2.number ≡ q.number)

-- a look adds nothing
pub sees_alone : {E : Type 0} (g g2 : Grown E) (q q2 : Passed E) → PassSees g g2 q q2
    → Adds q q2 []
sees_alone g g2 q q2 x = record {
  name = x.pass.0;
  number = x.pass.1;
  mine = x.mine ∙ sym (append-nil q.mine);
}

-- after a look the pass has seen at least as much as before
pub sees_more : {E : Type 0} (g g2 : Grown E) (q q2 : Passed E) → PassSees g g2 q q2
    → IsPrefix q.seen q2.seen
sees_more {E} g g2 q q2 x =
    subst (λ (xs : List E). IsPrefix q.seen xs) (sym (x.seen ∙ x.same.list)) x.before

-- two looks leave the list as one does
pub same_twice : {E : Type 0} (a b c : Grown E) → IsSameList a b → IsSameList b c
    → IsSameList a c
same_twice a b c x y = record {
  name = y.name ∙ x.name;
  callers = y.callers ∙ x.callers;
  list = y.list ∙ x.list;
  numbers = y.numbers ∙ x.numbers;
}

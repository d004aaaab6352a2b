-- Two looks at the appended rules, one after the other.
use Rattle.std.proofs.Common.{List, sym, ◌∙◌, subst}
use mathlib.Core.List.{IsPrefix}
use Rattle.grow_list.specs.Shown.{IsSameList, Passed}
use Rattle.policy_cell.specs.Policy.{LooksAt, PolicyValue}
use Rattle.policy_cell.specs.declared.cell.RuleEntry.{RuleEntry}

module _ (rules between rules2 : PolicyValue) (first first2 second second2 : Passed RuleEntry)
    (one : LooksAt rules between first first2) (other : LooksAt between rules2 second second2) where
  same : IsSameList rules.appended rules2.appended
  same = record {
    name = other.list.name ∙ one.list.name;
    callers = other.list.callers ∙ one.list.callers;
    list = other.list.list ∙ one.list.list;
    numbers = other.list.numbers ∙ one.list.numbers;
  }

  -- the first is one at the rules as the second leaves them
  pub looks_first : LooksAt rules rules2 first first2
  looks_first = record {
    base = other.base ∙ one.base;
    list = same;
    before = one.before;
    seen = one.seen ∙ sym other.list.list;
    mine = one.mine;
    same = one.same;
  }

  -- the second is one at the rules as they were before the first
  pub looks_second : LooksAt rules rules2 second second2
  looks_second = record {
    base = other.base ∙ one.base;
    list = same;
    before = subst (λ (xs : List RuleEntry). IsPrefix second.seen xs) one.list.list other.before;
    seen = other.seen;
    mine = other.mine;
    same = other.same;
  }

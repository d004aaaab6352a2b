-- The fields of a policy cell hold the rules in force.
use Rattle.std.proofs.Common.{◌≡◌, List, [], ◌∷◌, ◌++◌, length, take, sym, ap, refl, ◌∙◌, arith}
use Rattle.std.proofs.Math.ListN.{drop_of_length-le}
use Rattle.std.proofs.lemmas.List.{drop-append-le, length-append, map-append, take-append-drop}
use Rattle.rule_match.specs.policy.RuleValue.{RuleValue}
use Rattle.policy_cell.specs.Policy.{in_force, rules_in}
use Rattle.policy_cell.specs.PolicyFields.{IsPolicy, policy_of}
use Rattle.policy_cell.specs.declared.cell.PolicyCell.TheInside.{Inside}
use Rattle.policy_cell.specs.declared.cell.RuleEntry.{RuleEntry}

pub begun : (p : Inside) → p.base ≡ length p.index → p.appended.list ≡ [] → IsPolicy p
begun p base none = record {
  base = omega arith;
  appended = drop_of_length-le p.index (omega arith) ∙ ap rules_in (sym none);
}

pub kept : (p q : Inside) → IsPolicy p → q.base ≡ p.base → q.index ≡ p.index
    → q.appended.list ≡ p.appended.list → IsPolicy q
kept p q is base index list = record {
  base = rw (base, index) is.base;
  appended = rw (base, index, list) is.appended;
}

-- one more rule
pub appended : (p q : Inside) (r : RuleValue) (e : RuleEntry) → IsPolicy p → q.base ≡ p.base
    → q.index ≡ p.index ++ r ∷ [] → q.appended.list ≡ p.appended.list ++ e ∷ [] → e.rule ≡ r
    → IsPolicy q
appended p q r e is base index list same = record {
  base = rw (base, index, length-append p.index (r ∷ [])) (omega (arith, is.base));
  appended =
      rw (
        base,
        index,
        list,
        drop-append-le p.base p.index (r ∷ []) is.base,
        map-append (λ (x : RuleEntry). x.rule) p.appended.list (e ∷ []),
        is.appended,
        same,
      )
      refl;
}

pub forced : (p : Inside) → IsPolicy p → p.index ≡ in_force (policy_of p)
forced p is =
    sym (take-append-drop p.base p.index)
    ∙ ap (λ (rs : List RuleValue). take p.base p.index ++ rs) is.appended

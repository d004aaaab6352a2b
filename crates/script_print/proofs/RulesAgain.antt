-- Reading the lines of rules makes the rules again.
use Rattle.std.proofs.Common.{◌≡◌, ℕ, ◌+◌, ◌<◌, ◌≤◌, true, nat_lt, List, [], ◌∷◌, ◌++◌, length, map, refl, sym, ap, ◌∙◌, subst, arith, length-append, append_assoc}
use Rattle.std.specs.Prelude.{codes}
use Rattle.std.specs.List.{AllByRecursion}
use Rattle.std.proofs.lemmas.Bool.Decides.{nat_tests}
use Rattle.std.proofs.lemmas.List.{append-nil}
use Rattle.policy_text.specs.rules.RuleValue.{RuleValue}
use Rattle.policy_text.specs.Spelling.{rule_words}
use Rattle.script_text.specs.Draft.{Draft}
use Rattle.script_text.specs.Grammar.{with_head}
use Rattle.script_text.specs.Limits.{most_rules}
use Rattle.script_text.specs.Tasks.{with_rule}
use Rattle.script_text.specs.declared.head.Head.TheVariants as head
use Rattle.call_lines.specs.Rules.{IsReadRule}
use Rattle.script_spelling.specs.Spelling.{rule_line}
use Rattle.call_lines.proofs.Rules.{rule_back, rule_plain}
use Rattle.script_spelling.proofs.Many.{IsAt, Leads, again_at, by_map, many}
use Rattle.script_spelling.proofs.Steps.{Reads, one_line}

room : (n m : ℕ) → n < m → nat_lt n m ≡ true
room n m h = grind (arith, nat_tests)

-- the rules so far, and the rank
pub record Ruled : Type 0 where
  pub done : List RuleValue
  pub at : ℕ

module _ (base : Draft) (rules : List RuleValue)
    (few : length rules + base.appended ≤ most_rules) where
  abbrev pub ruling : Ruled → Draft
  ruling x = record base { script = record base.script { rules = x.done }; at = x.at }

  pub record AreLeft (x : Ruled) (rs : List RuleValue) : Type 0 where
    pub at : IsAt x.at 11
    pub read : AllByRecursion IsReadRule rs
    pub whole : x.done ++ rs ≡ rules

  one_rule : (r : RuleValue) (rs : List RuleValue) (x : Ruled) → AreLeft x (r ∷ rs)
      → Leads Ruled ruling (ruling x) (rule_line r ∷ []) (λ y. AreLeft y rs)
  unfolding with_head with_rule
  one_rule r rs x h =
      let y : Ruled = record { done = x.done ++ r ∷ []; at = 11 } in
      let whole = ap (λ (l : List RuleValue). length l) h.whole in
      let free : nat_lt (length x.done + base.appended) most_rules ≡ true =
      room (length x.done + base.appended) most_rules
      (omega (arith, few, whole, length-append x.done (r ∷ rs))) in
      record {
        to = y;
        reads = one_line (codes "rule") (rule_words r) head.Rule (ruling x) (ruling y) refl refl
            (rule_plain r h.read.0) refl (again_at 11 x.at h.at)
            (rw (rule_back r h.read.0, free) refl);
        is = record {
          at = record { some = omega arith; few = omega arith };
          read = h.read.1;
          whole = append_assoc x.done (r ∷ []) rs ∙ h.whole;
        };
      }

  -- reading the lines of all rules makes the rules again
  pub rules_again : AllByRecursion IsReadRule rules → base.script.rules ≡ [] → IsAt base.at 10
      → Leads ℕ (λ m. ruling (record { done = rules; at = m })) base (map rule_line rules)
      (λ m. IsAt m 11)
  rules_again read none at =
      let x : Ruled = record { done = []; at = base.at } in
      let r = many ruling (λ r. rule_line r ∷ []) AreLeft one_rule rules x (record {
        at = record { some = at.some; few = omega (arith, at.few) };
        read = read;
        whole = refl;
      }) in
      let same : r.to.done ≡ rules = sym (append-nil r.to.done) ∙ r.is.whole in
      let from : List RuleValue → Draft =
      λ l. record base { script = record base.script { rules = l } } in
      let P : List RuleValue → Type 0 =
      λ l. Reads (ruling x) (map rule_line rules) (ruling (record { done = l; at = r.to.at })) in
      let Q : List RuleValue → Type 0 =
      λ l. Reads (from l) (map rule_line rules) (ruling (record { done = rules; at = r.to.at })) in
      record {
        to = r.to.at;
        reads = subst Q (sym none)
            (subst P same (by_map rule_line rules (ruling x) (ruling r.to) r.reads));
        is = r.is.at;
      }

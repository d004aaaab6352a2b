-- The printed text of a policy is read back as that policy.
use Rattle.std.proofs.Common.{◌≡◌, ℕ, ◌+◌, ◌≤◌, ◌<◌, true, List, [], ◌∷◌, ◌++◌, Ok, length, take, get_or, nat_lt, refl, sym, subst, ap, ◌∙◌, append_assoc, arith, length-append}
use Rattle.std.specs.List.{AllByRecursion}
use Rattle.std.proofs.lemmas.Bool.Decides.{nat_tests}
use Rattle.std.proofs.lemmas.List.{append-nil}
use Rattle.std.proofs.lemmas.List.Elements.{All-from_recursion, All-more, recursion_from_All}
use Rattle.text_forms.specs.Lines.{lines, from_lines}
use Rattle.text_forms.proofs.Tells.{line_split}
use Rattle.policy_text.specs.Grammar.{fault_at, with_line, policy_of}
use Rattle.policy_rules.specs.Limits.{most_rules}
use Rattle.policy_rules.specs.RuleValue.{RuleValue, IsRule}
use Rattle.policy_rules.proofs.KeyLoops.{texts_more}
use Rattle.policy_text.specs.Spelling.{rule_text, policy_text}
use Rattle.policy_text.proofs.RulesAgain.{rule_again, rule_on_one_line, rule_stands}

with_rule : (done : List RuleValue) (r : RuleValue) → IsRule r → length done < most_rules
    → with_line done (rule_text r) ≡ Ok (done ++ r ∷ [])
with_rule done r ok room =
    let fits : nat_lt (length done) most_rules ≡ true = grind (arith, nat_tests) in
    rw (rule_stands r ok, rule_again r ok, fits) refl

rules_again : (rs done : List RuleValue) (n : ℕ) → AllByRecursion IsRule rs
    → length done + length rs ≤ most_rules
    → from_lines fault_at with_line n done (lines (policy_text rs)) ≡ Ok (done ++ rs)
rules_again [] done n ok room = ap (λ (rs : List RuleValue). Ok rs) (sym (append-nil done))
rules_again (r ∷ rs) done n ok room =
    let here : with_line done (rule_text r) ≡ Ok (done ++ r ∷ []) =
    with_rule done r ok.0 (omega arith) in
    let others : from_lines fault_at with_line (n + 1) (done ++ r ∷ []) (lines (policy_text rs))
    ≡ Ok ((done ++ r ∷ []) ++ rs) =
    rules_again rs (done ++ r ∷ []) (n + 1) ok.1 (omega (arith, length-append done (r ∷ []))) in
    ap (λ (ls : List (List ℕ)). from_lines fault_at with_line n done ls)
    (line_split (rule_text r) (policy_text rs) (rule_on_one_line r ok.0))
    ∙ rw here (others ∙ ap (λ (qs : List RuleValue). Ok qs) (append_assoc done (r ∷ []) rs))

pub policy_again : (rs : List RuleValue) → AllByRecursion IsRule rs → length rs ≤ most_rules
    → policy_of (policy_text rs) ≡ Ok rs
policy_again rs ok room = rules_again rs [] 1 ok (omega arith)

module _ (rules : List RuleValue) (i : ℕ) (r : RuleValue) where
  -- the text of one more rule was appended
  pub text_more : (out new : List ℕ) → i < length rules → r ≡ get_or rules i r
      → out ≡ policy_text (take i rules) → new ≡ out ++ (rule_text r ++ 10 ∷ [])
      → new ≡ policy_text (take (i + 1) rules)
  text_more out new lt is so_far put =
      put ∙ (ap (λ (t : List ℕ). t ++ (rule_text r ++ 10 ∷ [])) so_far
      ∙ (ap (λ (q : RuleValue). policy_text (take i rules) ++ (rule_text q ++ 10 ∷ [])) is
      ∙ sym (texts_more (λ q. rule_text q ++ 10 ∷ []) rules i r lt)))

  -- one more rule is a rule
  pub rules_more : i < length rules → r ≡ get_or rules i r → AllByRecursion IsRule (take i rules)
      → IsRule r → AllByRecursion IsRule (take (i + 1) rules)
  rules_more lt is so_far ok =
      recursion_from_All IsRule (take (i + 1) rules) (All-more IsRule rules i r lt
      (All-from_recursion IsRule (take i rules) so_far) (subst IsRule is ok))

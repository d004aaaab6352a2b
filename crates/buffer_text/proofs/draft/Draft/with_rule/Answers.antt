use Rattle.std.proofs.Common.{◌≡◌, ℕ, ◌<◌, ◌++◌, ◌∷◌, [], true, List, nat_lt, length, Option, Ok, refl, arith}
use Rattle.std.proofs.lemmas.Bool.Decides.{nat_tests}
use Rattle.script_text.specs.Limits.{most_rules}
use Rattle.script_text.specs.script_lines.Forms.{rule_of}
use Rattle.script_text.specs.steps.policy.RuleValue.{RuleValue}
use Rattle.buffer_text.specs.Draft.{Draft}
use Rattle.buffer_text.specs.Grammar.{with_rule}
use Rattle.buffer_text.proofs.draft.Draft.with_rule.Goals as goal

-- a rule is added to fewer than the most
rule_added : (text : Option (List ℕ)) (d : Draft) (r : RuleValue) → rule_of text ≡ Ok r
    → length d.text.rules < most_rules
    → with_rule text d
    ≡ Ok (record d { text = record d.text { rules = d.text.rules ++ r ∷ [] } })
unfolding with_rule
rule_added text d r is few =
    let room : nat_lt (length d.text.rules) most_rules ≡ true = grind (arith, nat_tests) in
    rw (is, room) refl

pub returns : goal.returns
returns c =
    let few : length c.self.inside.rules < most_rules =
    rw c.rules.ensures.rules at c.if-rules-ge-RULES.false in
    rw (← c.self.view_is, c.in_ok-push.ensures.ok)
    (rule_added _ _ c.in_ok-rule.rule c.in_ok-rule.ensures few)

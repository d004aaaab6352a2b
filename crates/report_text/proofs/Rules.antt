-- The line of an appended rule determines the rule.
use Rattle.std.proofs.Common.{◌≡◌, ℕ, ◌+◌, true, not, ◌==◌, List, [], ◌∷◌, map, Result, Ok, Err, inl, inr, refl, ap, ◌∙◌}
use Rattle.std.specs.List.{AllByRecursion, list_all, slice_split, join_with_byte, onto_first}
use Rattle.std.proofs.lemmas.Bool.{cases_Bool, false≢true}
use Rattle.std.proofs.lemmas.List.Splits.{join_with_byte-slice_split}
use Rattle.text_forms.specs.Words.{is_clean, is_clean_byte, is_line, words}
use Rattle.policy_text.specs.Grammar.{rule_of, plain_rule}
use Rattle.policy_text.specs.rules.RuleValue.{IsRule, RuleValue}
use Rattle.policy_text.specs.Spelling.{rule_text}
use Rattle.policy_text.specs.declared.fault.RuleCause.{RuleCause}
use Rattle.policy_text.specs.rules.declared.rule.Act.TheVariants as act
use Rattle.policy_text.proofs.RulesAgain.{rule_again, rule_on_one_line}
use Rattle.policy_cell.specs.declared.cell.RuleEntry.{RuleEntry}
use Rattle.report_events.specs.Words.{Line}
use Rattle.report_text.specs.Report.{rule_line, rule_lines}
use Rattle.report_text.proofs.CleanWords.{number_kept, who_kept}
use Rattle.report_text.proofs.Reading.{who_at, who_back}

onto_kept : (b : ℕ) (parts : List (List ℕ)) → is_clean_byte b ≡ true → list_all is_clean parts
    ≡ true → list_all is_clean (onto_first b parts) ≡ true
onto_kept b [] h k = rw h refl
onto_kept b (w ∷ ws) h k = rw h k

split_kept : (t : List ℕ) → list_all (λ b. not (b == 10)) t ≡ true
    → list_all is_clean (slice_split (λ b. b == 32) t) ≡ true
split_kept [] h = refl
split_kept (b ∷ bs) h = elim (cases_Bool (b == 10)) [
  | inl e ↦ absurd (false≢true (rw e at h))
  | inr e ↦ elim (cases_Bool (b == 32)) [
    | inl s ↦ rw s (split_kept bs (rw e at h))
    | inr s ↦ let here : is_clean_byte b ≡ true =
        rw (e, s) refl
        in rw s (onto_kept b (slice_split (λ c. c == 32) bs) here
        (split_kept bs (rw e at h)))
  ]
]

abbrev rule_from : Result RuleValue RuleCause → RuleValue
rule_from (Ok r) = r
rule_from (Err c) = plain_rule act.Measure

abbrev pub rule_at : Line → RuleEntry
rule_at (rule ∷ place ∷ who ∷ ws) =
    record { who = who_at who; rule = rule_from (rule_of (join_with_byte 32 ws)) }
rule_at _ = record { who = record { task = 0; call = 0; step = 0 }; rule = plain_rule act.Measure }

pub rule_back : (k : ℕ) (r : RuleEntry) → IsRule r.rule → rule_at (rule_line k r) ≡ r
rule_back k r h =
    let text : rule_of (join_with_byte 32 (words (rule_text r.rule))) ≡ Ok r.rule =
    ap rule_of (join_with_byte-slice_split 32 (rule_text r.rule)) ∙ rule_again r.rule h
    in
    rw (who_back r.who, text) refl

pub rules_back : (k : ℕ) (rs : List RuleEntry) → AllByRecursion (λ (r : RuleEntry). IsRule r.rule) rs
    → map rule_at (rule_lines k rs) ≡ rs
rules_back k [] h = refl
rules_back k (r ∷ rs) h = cc (rule_back k r h.0, rules_back (k + 1) rs h.1)

pub rules_kept : (k : ℕ) (rs : List RuleEntry)
    → AllByRecursion (λ (r : RuleEntry). IsRule r.rule) rs
    → list_all is_line (rule_lines k rs) ≡ true
rules_kept k [] h = refl
rules_kept k (r ∷ rs) h =
    rw (
      number_kept k,
      who_kept r.who,
      split_kept (rule_text r.rule) (rule_on_one_line r.rule h.0),
    )
    (rules_kept (k + 1) rs h.1)

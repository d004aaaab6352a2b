-- The printed text of a rule consists of words, and is read back as that rule.
use Rattle.std.proofs.Common.{◌≡◌, ℕ, true, false, not, ◌==◌, List, [], ◌∷◌, ◌++◌, flat_map, filter, Ok, refl, sym, ap, ◌∙◌, append_assoc, inl, inr, arith}
use Rattle.std.specs.List.{list_all, join_with_byte}
use Rattle.std.proofs.lemmas.Bool.{and_parts, cases_Bool}
use Rattle.std.proofs.lemmas.Bool.Decides.{nat_tests}
use Rattle.std.proofs.lemmas.List.{append-nil}
use Rattle.text_forms.specs.Lines.{is_one_line}
use Rattle.text_forms.specs.Tokens.{is_blank, is_filled, is_inked, tokens}
use Rattle.text_forms.specs.Words.{words}
use Rattle.text_forms.proofs.Visible.{all_weaker, flat_from_visible, inked_from_visible}
use Rattle.policy_rules.specs.declared.key.Key.{Key}
use Rattle.policy_rules.specs.declared.rule.Act.{Act}
use Rattle.policy_rules.specs.declared.rule.Act.TheVariants as act
use Rattle.policy_text.specs.Grammar.{rule_of, rule_of_tokens, is_skipped}
use Rattle.policy_rules.specs.Key.{keys, row}
use Rattle.policy_rules.specs.RuleValue.{RuleValue, IsRule}
use Rattle.policy_rules.specs.ValueTexts.{act_word}
use Rattle.policy_text.specs.Spelling.{is_visible_word, key_text, key_word, key_words, rule_text, rule_words}
use Rattle.policy_text.proofs.Joined.{all_joined, filled_kept, parts_joined}
use Rattle.policy_text.proofs.KeysAgain.{keys_again}
use Rattle.policy_text.proofs.ValuesAgain.{act_again}

-- joining words by single spaces gives the first word, and then each other word after a space
pub spaced : (w : List ℕ) (ks : List Key) (r : RuleValue) → join_with_byte 32 (w ∷ key_words ks r)
    ≡ w ++ flat_map (key_text r) ks
spaced w [] r = sym (append-nil w)
spaced w (k ∷ ks) r = elim (cases_Bool ((row k).is_in r)) [
  | inl e ↦ rw e (ap (λ (t : List ℕ). w ++ (32 ∷ t)) (spaced (key_word k r) ks r))
  | inr e ↦ rw e (spaced w ks r)
]

-- the text appended to `out` is the rule's text
pub rule_put : (r : RuleValue) (start first last : List ℕ) → first ≡ start ++ act_word r.act → last
    ≡ first ++ flat_map (key_text r) keys → last ≡ start ++ rule_text r
unfolding rule_text
rule_put r start first last a b =
    rw (b, a, spaced (act_word r.act) keys r)
    (append_assoc start (act_word r.act) (flat_map (key_text r) keys))

act_visible : (a : Act) → is_visible_word (act_word a) ≡ true
act_visible act.Measure = refl
act_visible act.DontMeasure = refl
act_visible act.Appraise = refl
act_visible act.DontAppraise = refl
act_visible act.Audit = refl
act_visible act.DontAudit = refl
act_visible act.Hash = refl
act_visible act.DontHash = refl

act_skips : (a : Act) (ts : List (List ℕ)) → is_skipped (act_word a ∷ ts) ≡ false
act_skips act.Measure ts = refl
act_skips act.DontMeasure ts = refl
act_skips act.Appraise ts = refl
act_skips act.DontAppraise ts = refl
act_skips act.Audit ts = refl
act_skips act.DontAudit ts = refl
act_skips act.Hash ts = refl
act_skips act.DontHash ts = refl

visible_filled : (w : List ℕ) → is_visible_word w ≡ true → is_filled w ≡ true
visible_filled w h = (and_parts _ _ h).0

visible_inked : (w : List ℕ) → is_visible_word w ≡ true → list_all is_inked w ≡ true
visible_inked w h = inked_from_visible w (and_parts _ _ h).1

spaceless : (b : ℕ) → is_inked b ≡ true → not (b == 32) ≡ true
spaceless b h = grind (arith, nat_tests)

visible_spaceless : (w : List ℕ) → is_visible_word w ≡ true → list_all (λ b. not (b == 32)) w ≡ true
visible_spaceless w h = all_weaker is_inked (λ b. not (b == 32)) spaceless w (visible_inked w h)

visible_flat : (w : List ℕ) → is_visible_word w ≡ true → list_all (λ b. not (b == 10)) w ≡ true
visible_flat w h = flat_from_visible w (and_parts _ _ h).1

module _ (r : RuleValue) (ok : IsRule r) where
  -- each word of a rule is at least one visible byte
  pub words_visible : list_all is_visible_word (rule_words r) ≡ true
  words_visible = rw (act_visible r.act) (keys_again r ok).0

  -- splitting the text of a rule gives its words
  pub words_again : words (rule_text r) ≡ rule_words r
  unfolding rule_text
  words_again =
      parts_joined (λ b. b == 32) 32 refl (act_word r.act) (key_words keys r)
      (all_weaker is_visible_word (λ v. list_all (λ b. not (b == 32)) v) visible_spaceless
      (rule_words r) words_visible)

  pub rule_tokens : tokens (rule_text r) ≡ rule_words r
  unfolding rule_text
  rule_tokens =
      ap (filter is_filled)
      (parts_joined is_blank 32 refl (act_word r.act) (key_words keys r)
      (all_weaker is_visible_word (λ v. list_all is_inked v) visible_inked (rule_words r)
      words_visible))
      ∙ filled_kept (rule_words r)
      (all_weaker is_visible_word is_filled visible_filled (rule_words r) words_visible)

  -- the text of a rule is one line
  pub rule_on_one_line : is_one_line (rule_text r) ≡ true
  unfolding rule_text
  rule_on_one_line =
      all_joined (λ b. not (b == 10)) 32 refl (rule_words r)
      (all_weaker is_visible_word (λ v. list_all (λ b. not (b == 10)) v) visible_flat (rule_words r)
      words_visible)

  pub rule_again : rule_of (rule_text r) ≡ Ok r
  rule_again = ap rule_of_tokens rule_tokens ∙ rw (act_again r.act).1 (keys_again r ok).1

  pub rule_stands : is_skipped (tokens (rule_text r)) ≡ false
  rule_stands = ap is_skipped rule_tokens ∙ act_skips r.act (key_words keys r)

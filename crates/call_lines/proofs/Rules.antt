-- The text of a rule, and the words of it.
use Rattle.std.proofs.Common.{◌≡◌, ℕ, true, List, [], ◌∷◌, ◌++◌, Option, Some, None, Ok, sym, ap, ◌∙◌, append_assoc}
use Rattle.std.specs.List.{join_with_byte, list_all}
use Rattle.std.proofs.lemmas.List.{append-nil}
use Rattle.policy_text.specs.Grammar as policy
use Rattle.call_steps.specs.policy.Key.{keys}
use Rattle.call_steps.specs.policy.RuleValue.{RuleValue}
use Rattle.policy_text.specs.rules.ValueTexts.{act_word}
use Rattle.policy_text.specs.Spelling.{is_visible_word, key_words, rule_text, rule_words}
use Rattle.text_forms.specs.Tokens.{is_filled}
use Rattle.text_forms.proofs.Visible.{all_weaker}
use Rattle.script_words.specs.Forms.{bad_rule, rule_of}
use Rattle.call_lines.specs.Lines.{Line, is_plain, words_text}
use Rattle.call_lines.specs.Rules.{IsReadRule}
use Rattle.call_lines.proofs.Holding.{right_true}

-- words preceded by a space each are words joined by spaces
pub joined_is : (w : List ℕ) (ws : Line) → words_text (w ∷ ws) ≡ join_with_byte 32 (w ∷ ws)
joined_is w [] = append-nil w
joined_is w (v ∷ ws) = ap (λ (t : List ℕ). w ++ 32 ∷ t) (joined_is v ws)

-- the text after the first word
abbrev pub text_after : Line → Option (List ℕ)
text_after [] = None
text_after (w ∷ ws) = Some (words_text (w ∷ ws))

-- a word of at least one visible byte is plain
visible_plain : (w : List ℕ) → is_visible_word w ≡ true → is_plain w ≡ true
visible_plain w h = right_true (is_filled w) (is_plain w) h

-- the words of a rule that can be read again are plain
pub rule_plain : (r : RuleValue) → IsReadRule r → list_all is_plain (rule_words r) ≡ true
rule_plain r h = all_weaker is_visible_word is_plain visible_plain (rule_words r) h.visible

-- the words of a rule, joined, are its text
pub rule_joined : (r : RuleValue) → words_text (rule_words r) ≡ rule_text r
unfolding rule_text
rule_joined r = joined_is (act_word r.act) (key_words keys r)

-- the words of a rule that can be read again are read as that rule
pub rule_back : (r : RuleValue) → IsReadRule r → rule_of (text_after (rule_words r)) ≡ Ok r
rule_back r h =
    ap (λ (t : List ℕ). bad_rule (policy.rule_of t)) (rule_joined r) ∙ ap bad_rule h.again

-- the text of a rule after the first word
pub rule_after : (w : List ℕ) (r : RuleValue)
    → words_text (w ∷ rule_words r) ≡ w ++ 32 ∷ rule_text r
rule_after w r = ap (λ t. w ++ 32 ∷ t) (rule_joined r)

-- a first word and a rule, appended to a text
pub added_put : (start o p : List ℕ) (w : List ℕ) (r : RuleValue) → o ≡ start ++ (w ++ 32 ∷ [])
    → p ≡ o ++ rule_text r → p ≡ start ++ words_text (w ∷ rule_words r)
added_put start o p w r h k =
    k ∙ ap (λ t. t ++ rule_text r) h ∙ append_assoc start (w ++ 32 ∷ []) (rule_text r)
    ∙ ap (λ t. start ++ t) (append_assoc w (32 ∷ []) (rule_text r) ∙ sym (rule_after w r))

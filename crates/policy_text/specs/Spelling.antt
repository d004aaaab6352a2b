-- The canonical text of rules, and the words for the causes.
use Rattle.std.specs.Prelude.{ℕ, Bool, ◌&&◌, List, [], ◌∷◌, ◌++◌, codes, if◌then◌else◌}
use Rattle.std.specs.List.{flat_map, join_with_byte, list_all}
use Rattle.text_forms.specs.Tokens.{is_filled}
use Rattle.text_forms.specs.Words.{is_visible}
use Rattle.policy_text.specs.declared.fault.RuleCause.{RuleCause}
use Rattle.policy_text.specs.declared.fault.RuleCause.TheVariants as cause
use Rattle.policy_rules.specs.declared.key.Key.{Key}
use Rattle.policy_rules.specs.Key.{keys, row}
use Rattle.policy_rules.specs.RuleValue.{RuleValue}
use Rattle.policy_rules.specs.ValueTexts.{act_word}

abbrev pub cause_word : RuleCause → List ℕ
cause_word cause.BadAction = codes "bad-action"
cause_word cause.BadKey = codes "bad-key"
cause_word cause.Twice = codes "twice"
cause_word cause.BadValue = codes "bad-value"
cause_word cause.NotForAction = codes "not-for-action"
cause_word cause.Unsupported = codes "unsupported"
cause_word cause.TooMany = codes "too-many"

-- the word for the key in a rule that has it
abbrev pub key_word : Key → RuleValue → List ℕ
key_word k r = (row k).name ++ (row k).spelled r

-- the words for those of these keys that the rule has
abbrev pub key_words : List Key → RuleValue → List (List ℕ)
key_words [] r = []
key_words (k ∷ ks) r = if (row k).is_in r then key_word k r ∷ key_words ks r else key_words ks r

-- a space and the key's word, or nothing if the rule doesn't have the key
abbrev pub key_text : RuleValue → Key → List ℕ
key_text r k = if (row k).is_in r then 32 ∷ key_word k r else []

-- the word for the action, and then those for the keys in the order of the table
abbrev pub rule_words : RuleValue → List (List ℕ)
rule_words r = act_word r.act ∷ key_words keys r

-- the word is at least one visible byte
abbrev pub is_visible_word : List ℕ → Bool
is_visible_word word = is_filled word && list_all is_visible word

-- the words of a rule, separated by single spaces
unfoldable pub rule_text : RuleValue → List ℕ
rule_text r = join_with_byte 32 (rule_words r)

abbrev pub policy_text : List RuleValue → List ℕ
policy_text rules = flat_map (λ r. rule_text r ++ 10 ∷ []) rules

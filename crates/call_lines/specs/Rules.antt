-- Rules whose text is read as the same rule.
use Rattle.std.specs.Prelude.{◌≡◌, true, Ok}
use Rattle.std.specs.List.{list_all}
use Rattle.call_steps.specs.declared.call.Call.{Call}
use Rattle.call_steps.specs.declared.call.Call.TheVariants as call
use Rattle.policy_text.specs.Grammar.{rule_of}
use Rattle.call_steps.specs.policy.RuleValue.{RuleValue}
use Rattle.policy_text.specs.Spelling.{is_visible_word, rule_text, rule_words}
use Rattle.call_lines.specs.Arguments.{Arguments, Rule, Said, Words}

-- the rule's text is read as the same rule, and each of its words is visible
pub record IsReadRule (r : RuleValue) : Type 0 where
  pub again : rule_of (rule_text r) ≡ Ok r
  pub visible : list_all is_visible_word (rule_words r) ≡ true

-- the rule that is said, if any, is read as the same rule
abbrev pub SaysReadRule : (a : Arguments) → Said a → Type 0
SaysReadRule Rule r = IsReadRule r
SaysReadRule (Words fs) v = Unit {0}

-- the rule that a call appends, if any, is read as the same rule
abbrev pub HasReadRule : Call → Type 0
HasReadRule (call.AddRule rule) = IsReadRule rule
HasReadRule _ = Unit {0}

-- The grammar of policies: the rules of a text, or its first bad line, with the cause of the first
-- bad token in that line.
use Rattle.std.specs.Prelude.{ℕ, Bool, true, false, not, ◌==◌, List, [], ◌∷◌, ◌++◌, length, None, Result, Ok, Err, ok_or, nat_lt, if◌then◌else◌}
use Rattle.inode_meta.specs.declared.appraisal.Need.TheVariants as need
use Rattle.text_forms.specs.Lines.{◌>>=◌, lines, from_lines}
use Rattle.text_forms.specs.Tokens.{tokens}
use Rattle.policy_text.specs.declared.fault.Fault.{Fault}
use Rattle.policy_text.specs.declared.fault.RuleCause.{RuleCause}
use Rattle.policy_text.specs.declared.fault.RuleCause.TheVariants as cause
use Rattle.policy_rules.specs.declared.key.Key.{Key}
use Rattle.policy_rules.specs.declared.rule.Act.{Act}
use Rattle.policy_rules.specs.Key.{is_unsupported_key, key_of, row}
use Rattle.policy_rules.specs.Limits.{most_rules}
use Rattle.policy_rules.specs.RuleValue.{RuleValue}
use Rattle.policy_rules.specs.Values.{act_of}

-- the rule that has this action, and neither conditions nor options
abbrev pub plain_rule : Act → RuleValue
plain_rule a = record {
  act = a;
  func = None;
  mask = None;
  fsmagic = None;
  fsuuid = None;
  fsname = None;
  uid = None;
  euid = None;
  gid = None;
  egid = None;
  fowner = None;
  fgroup = None;
  need = need.Any;
  blacklist = false;
  algos = None;
  directio = false;
  pcr = None;
  template = None;
}

-- the rule with this key and value added, or the cause of the first check that fails
abbrev pub with_key : Key → List ℕ → RuleValue → Result RuleValue RuleCause
with_key k value r =
    if not ((row k).belongs r.act) then Err cause.NotForAction
    else if (row k).is_in r then Err cause.Twice
    else if (row k).left_out value then Err cause.Unsupported
    else ok_or ((row k).read value r) cause.BadValue

-- the rule with one more token
abbrev pub with_token : RuleValue → List ℕ → Result RuleValue RuleCause
with_token r token =
    if is_unsupported_key token then Err cause.Unsupported
    else ok_or (key_of token) cause.BadKey >>= λ k. with_key k.0 k.1 r

abbrev pub with_tokens : RuleValue → List (List ℕ) → Result RuleValue RuleCause
with_tokens r [] = Ok r
with_tokens r (token ∷ ts) = with_token r token >>= λ s. with_tokens s ts

-- the rule of a line's tokens, of which the first is the action
abbrev pub rule_of_tokens : List (List ℕ) → Result RuleValue RuleCause
rule_of_tokens [] = Err cause.BadAction
rule_of_tokens (token ∷ ts) = ok_or (act_of token) cause.BadAction >>= λ a. with_tokens
    (plain_rule a) ts

abbrev pub rule_of : List ℕ → Result RuleValue RuleCause
rule_of line = rule_of_tokens (tokens line)

-- a line without tokens, or a comment
abbrev pub is_skipped : List (List ℕ) → Bool
is_skipped [] = true
is_skipped ([] ∷ ts) = false
is_skipped ((c ∷ cs) ∷ ts) = c == 35

-- the rules with that of one more line
abbrev pub with_line : List RuleValue → List ℕ → Result (List RuleValue) RuleCause
with_line rules line =
    if is_skipped (tokens line) then Ok rules
    else rule_of line >>= λ r. if nat_lt (length rules) most_rules then Ok (rules ++ r ∷ [])
    else Err cause.TooMany

abbrev pub fault_at : ℕ → RuleCause → Fault
fault_at n c = record { line = n; cause = c }

abbrev pub policy_of : List ℕ → Result (List RuleValue) Fault
policy_of text = from_lines fault_at with_line 1 [] (lines text)

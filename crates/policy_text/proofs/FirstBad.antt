-- A refused policy has a first bad line: the lines before it are rules, blank lines or comments,
-- and it is refused with the fault's cause.
use Rattle.std.proofs.Common.{◌≡◌, ℕ, ◌+◌, List, [], ◌∷◌, drop, Result, Err}
use Rattle.text_forms.specs.Lines.{from_lines, lines, IsFirstBad}
use Rattle.text_forms.proofs.Steps.{first_bad, stops}
use Rattle.policy_text.specs.declared.fault.Fault.{Fault}
use Rattle.policy_text.specs.declared.fault.LineErr.{LineErr}
use Rattle.policy_text.specs.declared.fault.LineErr.TheVariants as err
use Rattle.policy_text.specs.declared.fault.RuleCause.{RuleCause}
use Rattle.policy_text.specs.Gives.{LineFails, Fails, err_at}
use Rattle.policy_text.specs.Grammar.{fault_at, policy_of, with_line}
use Rattle.policy_rules.specs.RuleValue.{RuleValue}

pub first_bad_line : (text : List ℕ) (f : Fault) → policy_of text ≡ Err f
    → IsFirstBad (List RuleValue) RuleCause Fault fault_at with_line 1 [] (lines text) f
first_bad_line text f e = first_bad fault_at with_line (lines text) 1 [] f e

-- a line that gives no rule ends the parsing
pub stops_at : (ls : List (List ℕ)) (whole : Result (List RuleValue) Fault) (n : ℕ)
    (rules : List RuleValue) (line : List ℕ) (e : LineErr)
    → drop n ls ≡ line ∷ drop (n + 1) ls → LineFails e (with_line rules line)
    → from_lines fault_at with_line (n + 1) rules (drop n ls) ≡ whole
    → Fails (err_at (n + 1) e) whole
stops_at ls whole n rules line (err.Refused c) item bad so_far =
    stops fault_at with_line ls whole n rules line c item bad so_far
stops_at ls whole n rules line err.OutOfMemory item bad so_far = tt

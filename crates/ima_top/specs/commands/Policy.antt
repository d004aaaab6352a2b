-- The command `policy`: the canonical text of a policy, or its first bad line and the cause.
use Rattle.std.specs.Prelude.{◌≡◌, ℕ, List, ◌++◌, codes, Option, Some, None, Result, Ok, Err, IsOkAnd}
use Rattle.std.specs.Fmt.{decimal}
use Rattle.policy_text.specs.declared.fault.Fault.{Fault}
use Rattle.policy_text.specs.Grammar.{policy_of}
use Rattle.policy_text.specs.rules.RuleValue.{RuleValue}
use Rattle.policy_text.specs.Spelling.{cause_word, policy_text}
use Rattle.ima_top.specs.Line.{with_newline}

-- `line L: CAUSE`
abbrev pub fault_line : Fault → List ℕ
fault_line f = with_newline (codes "line " ++ decimal f.line ++ codes ": " ++ cause_word f.cause)

abbrev pub refusal_of_fault : Result (List RuleValue) Fault → Option (List ℕ)
refusal_of_fault (Ok rules) = None
refusal_of_fault (Err fault) = Some (fault_line fault)

-- the line that refuses an input that isn't a policy
unfoldable pub policy_refusal : List ℕ → Option (List ℕ)
policy_refusal input = refusal_of_fault (policy_of input)

-- the output for a policy is the canonical text of its rules
unfoldable pub IsPolicyOutput : List ℕ → List ℕ → Type 0
IsPolicyOutput input output = IsOkAnd (policy_of input) (λ rules. output ≡ policy_text rules)

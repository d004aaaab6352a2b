-- Contracts of functions that return what a definition says, unless memory runs out.
use Rattle.std.specs.Prelude.{◌≡◌, ℕ, Result, Ok, Err}
use Rattle.policy_text.specs.declared.fault.Fault.{Fault}
use Rattle.policy_text.specs.declared.fault.RuleCause.{RuleCause}
use Rattle.policy_text.specs.declared.fault.LineErr.{LineErr}
use Rattle.policy_text.specs.declared.fault.LineErr.TheVariants as line
use Rattle.policy_text.specs.declared.fault.PolicyErr.{PolicyErr}
use Rattle.policy_text.specs.declared.fault.PolicyErr.TheVariants as policy

abbrev pub err_at : ℕ → LineErr → PolicyErr
err_at n (line.Refused c) = policy.Refused (record { line = n; cause = c })
err_at n line.OutOfMemory = policy.OutOfMemory

abbrev pub LineFails : {X : Type 0} → LineErr → Result X RuleCause → Type 0
LineFails line.OutOfMemory said = Unit {0}
LineFails (line.Refused c) said = said ≡ Err c

-- the result of parsing a line is `said`, or memory ran out
abbrev pub LineGives : {X : Type 0} → Result X LineErr → Result X RuleCause → Type 0
LineGives (Ok x) said = said ≡ Ok x
LineGives (Err e) said = LineFails e said

abbrev pub Fails : {X : Type 0} → PolicyErr → Result X Fault → Type 0
Fails policy.OutOfMemory said = Unit {0}
Fails (policy.Refused f) said = said ≡ Err f

-- the result of parsing a text is `said`, or memory ran out
abbrev pub Gives : {X : Type 0} → Result X PolicyErr → Result X Fault → Type 0
Gives (Ok x) said = said ≡ Ok x
Gives (Err e) said = Fails e said

-- A function returns the value that a definition gives, unless memory runs out.
use Rattle.std.specs.Prelude.{◌≡◌, ℕ, List, Vec, Option, Some, None, Result, Ok, Err}
use Rattle.report_draft.specs.declared.fault.LineErr.{LineErr}
use Rattle.report_draft.specs.declared.fault.LineErr.TheVariants as line
use Rattle.report_draft.specs.declared.fault.ReadErr.{ReadErr}
use Rattle.report_draft.specs.declared.fault.ReadErr.TheVariants as read

abbrev pub err_at : ℕ → LineErr → ReadErr
err_at n line.Refused = read.Refused n
err_at n line.OutOfMemory = read.OutOfMemory

abbrev pub LineFails : {X : Type 0} → LineErr → Option X → Type 0
LineFails line.OutOfMemory said = Unit {0}
LineFails line.Refused said = said ≡ None

-- the result of a line that changes a state: `new` is the state after an `Ok`, and open after an
-- `Err`
abbrev pub Makes : {X : Type 0} → Result (Unit {0}) LineErr → Option X → X → Type 0
Makes (Ok u) said new = said ≡ Some new
Makes (Err e) said new = LineFails e said

abbrev pub Fails : {X : Type 0} → ReadErr → Result X ℕ → Type 0
Fails read.OutOfMemory said = Unit {0}
Fails (read.Refused n) said = said ≡ Err n

-- the result of reading a text, of which the definition gives a value or the first bad line
abbrev pub Gives : {X : Type 0} → Result X ReadErr → Result X ℕ → Type 0
Gives (Ok x) said = said ≡ Ok x
Gives (Err e) said = Fails e said

-- the same, for a vector
abbrev pub ReadsAs : {X A : Type 0} → Result (Vec X A) ReadErr → Result (List X) ℕ → Type 0
ReadsAs (Ok v) said = said ≡ Ok v.items
ReadsAs (Err e) said = Fails e said

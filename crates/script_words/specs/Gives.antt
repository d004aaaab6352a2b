-- A function returns the value that a definition gives, unless memory runs out.
use Rattle.std.specs.Prelude.{◌≡◌, ℕ, List, Result, Ok, Err, Vec}
use Rattle.script_words.specs.declared.fault.Fault.{Fault}
use Rattle.script_words.specs.declared.fault.LineErr.{LineErr}
use Rattle.script_words.specs.declared.fault.LineErr.TheVariants as line
use Rattle.script_words.specs.declared.fault.ScriptErr.{ScriptErr}
use Rattle.script_words.specs.declared.fault.ScriptErr.TheVariants as script

abbrev pub err_at : {C : Type 0} → ℕ → LineErr C → ScriptErr C
err_at n (line.Refused c) = script.Refused (record { line = n; cause = c })
err_at n line.OutOfMemory = script.OutOfMemory

abbrev pub LineFails : {X C : Type 0} → LineErr C → Result X C → Type 0
LineFails line.OutOfMemory said = Unit {0}
LineFails (line.Refused c) said = said ≡ Err c

-- the result of reading a line
abbrev pub LineGives : {X C : Type 0} → Result X (LineErr C) → Result X C → Type 0
LineGives (Ok x) said = said ≡ Ok x
LineGives (Err e) said = LineFails e said

-- the result of a line that changes a state: `new` is the state after an `Ok`, and open after an
-- `Err`
abbrev pub LineMakes : {X C : Type 0} → Result (Unit {0}) (LineErr C) → Result X C → X → Type 0
LineMakes (Ok u) said new = said ≡ Ok new
LineMakes (Err e) said new = LineFails e said

-- the result of reading a line of numbers into a vector
abbrev pub VecGives : {A C : Type 0} → Result (Vec ℕ A) (LineErr C) → Result (List ℕ) C → Type 0
VecGives (Ok v) said = said ≡ Ok v.items
VecGives (Err e) said = LineFails e said

abbrev pub Fails : {X C : Type 0} → ScriptErr C → Result X (Fault C) → Type 0
Fails script.OutOfMemory said = Unit {0}
Fails (script.Refused f) said = said ≡ Err f

-- the result of reading a text
abbrev pub Gives : {X C : Type 0} → Result X (ScriptErr C) → Result X (Fault C) → Type 0
Gives (Ok x) said = said ≡ Ok x
Gives (Err e) said = Fails e said

-- The text of a generated script is read as that script.
use Rattle.std.proofs.Common.{◌≡◌, ℕ, List, length, MatchResult, Ok, Result, sym, ap, ◌∙◌, subst}
use Rattle.load_gen.specs.Accepted.{IsAccepted, IsLoad}
use Rattle.load_gen.specs.Script.{script_text}
use Rattle.ima_top.specs.Summarized.{IsLoaded}
use Rattle.script_text.specs.Grammar.{script_of}
use Rattle.script_text.specs.ScriptValue.{ScriptValue}
use Rattle.script_words.specs.declared.fault.Fault.{Fault}
use Rattle.script_words.specs.declared.fault.LineCause.{LineCause}

-- the result of reading a text is a script with all its files, rules and tasks
abbrev IsRead : Result ScriptValue (Fault LineCause) → Type 0
IsRead r = MatchResult r IsLoad (λ f. ⊥)

pub is_loaded : (number : ℕ) (text : List ℕ) (s : ScriptValue) (size : ℕ)
    → text ≡ script_text number → IsAccepted text → script_of text ≡ Ok s → size ≡ length text
    → IsLoaded number s size
is_loaded number text s size is accepted read long = record {
  read = ap (λ (t : List ℕ). script_of t) (sym is) ∙ read;
  load = subst IsRead read accepted;
  counted = long ∙ ap length is;
}

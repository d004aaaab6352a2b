-- The line of a call: the call that it makes, and the canonical line that makes a call.
use Rattle.std.specs.Prelude.{ℕ, Bool, List, ◌∷◌, Option, None, Result, Ok}
use Rattle.call_steps.specs.declared.call.Call.{Call}
use Rattle.text_forms.specs.Lines.{◌>>=◌}
use Rattle.script_words.specs.declared.fault.LineCause.{LineCause}
use Rattle.script_words.specs.Forms.{rule_of}
use Rattle.call_lines.specs.Arguments.{Said, argument_words, is_fit, made_by, said_of}
use Rattle.call_lines.specs.Lines.{Line}
use Rattle.call_lines.specs.Table.{Spoken, row, spoken, told}
use Rattle.call_lines.specs.declared.table.CallWord.{CallWord}
use Rattle.call_lines.specs.declared.table.CallWord.TheVariants as word

-- a call, or the cause for which its line is refused
abbrev pub Called : Type 0
Called = Result Call LineCause

-- the call of a row
abbrev pub made : (w : CallWord) → Said (row w).arguments → Call
made w s = made_by (row w).arguments (row w).call s

-- the call of a row's line of words, if the files have these paths
abbrev pub line_call : CallWord → List (List ℕ) → List (List ℕ) → Called
line_call w paths words = said_of paths (row w).arguments None words >>= λ s. Ok (made w s)

-- the call that appends the rule of a text
abbrev pub added_rule : Option (List ℕ) → Called
added_rule text = rule_of text >>= λ r. Ok (made word.AddRule r)

-- the call of a line, by its first word, the text after it, the words of that text, and the paths
-- of the files
unfoldable pub call_of : CallWord → Option (List ℕ) → List (List ℕ) → List (List ℕ) → Called
call_of w text words paths = said_of paths (row w).arguments text words >>= λ s. Ok (made w s)

-- the canonical words after the first
abbrev pub words_after : List (List ℕ) → Spoken → Line
words_after paths s = argument_words paths (row s.word).arguments s.said

-- the canonical line of a row's word and what the arguments say
abbrev pub line_by : List (List ℕ) → Spoken → Line
line_by paths s = (row s.word).word ∷ words_after paths s

-- the canonical line of a call, if the files have these paths
abbrev pub call_line : List (List ℕ) → Call → Line
call_line paths = told (line_by paths)

-- whether a line can say this in a script with this many files
abbrev pub can_say : ℕ → Spoken → Bool
can_say files s = is_fit files (row s.word).arguments s.said

-- whether a line can say this call in a script with this many files
abbrev pub is_line_call : ℕ → Call → Bool
is_line_call files c = can_say files (spoken c)

-- The words of the command line, and the command that they name.
use Rattle.std.specs.Prelude.{ℕ, ◌==◌, Bool, false, List, [], ◌∷◌, codes, Option, Some, None, if◌then◌else◌, option_and_then, option_map}
use Rattle.std.specs.Str.{bytes_eq}
use Rattle.text_forms.specs.Numbers.{short_number_of}
use Rattle.text_forms.specs.Tables.{look_up}
use Rattle.command_line.specs.declared.command.Command.{Command}
use Rattle.command_line.specs.declared.command.Command.TheVariants as command

-- the commands that are one word alone, by their words
abbrev pub lone_commands : List (List ℕ × Command)
lone_commands =
    (codes "list", command.List)
    ∷ (codes "policy", command.Policy)
    ∷ (codes "label", command.Label)
    ∷ (codes "run", command.Run)
    ∷ (codes "buffers", command.Buffers)
    ∷ (codes "carry", command.Carry)
    ∷ (codes "audit", command.Audit)
    ∷ (codes "loads", command.Loads)
    ∷ []

-- the command that a lone word names
abbrev pub command_named : List ℕ → Option Command
command_named word = look_up lone_commands word

abbrev pub if_positive : ℕ → Option ℕ
if_positive n = if n == 0 then None else Some n

-- the number of a generated script: digits without a leading zero, from 1 to 1,000,000
abbrev pub script_number : List ℕ → Option ℕ
script_number text = option_and_then if_positive (short_number_of 10 1000000 text)

-- the command that a word names if one other word follows it
abbrev pub command_numbered : List ℕ → List ℕ → Option Command
command_numbered word number =
    if bytes_eq word (codes "gen") then option_map command.Gen (script_number number) else None

-- the command that the words name
abbrev pub command_of : List (List ℕ) → Option Command
command_of [] = None
command_of (word ∷ []) = command_named word
command_of (word ∷ number ∷ []) = command_numbered word number
command_of (word ∷ number ∷ more ∷ others) = None

-- the command of a word and the number after it, if there is one
abbrev pub command_by : List ℕ → Option (List ℕ) → Option Command
command_by word None = command_named word
command_by word (Some number) = command_numbered word number

-- whether the word begins with a hyphen
abbrev pub is_option : List ℕ → Bool
is_option [] = false
is_option (b ∷ bs) = b == 45

-- The words of the command line, and what they ask for.
use Rattle.std.specs.Prelude.{ℕ, List, [], ◌∷◌, codes, Option, Some, None, if◌then◌else◌, unwrap_or, ⊤}
use Rattle.std.specs.Str.{bytes_eq}
use Rattle.text_forms.specs.Numbers.{is_short_numeral, short_number_of}
use Rattle.text_forms.specs.Options.{◌>>=◌}
use Rattle.view_top.specs.declared.command.Asked.{Asked}
use Rattle.view_top.specs.declared.command.Command.{Command}
use Rattle.view_top.specs.declared.command.Command.TheVariants as command

-- the most that a number is read as; each place of each report is below it
abbrev pub far : ℕ
far = 1000000000

-- the number that a word names: decimal digits without a leading zero
abbrev pub number_of : List ℕ → Option ℕ
number_of word =
    if is_short_numeral 10 word then Some (unwrap_or (short_number_of 10 far word) far) else None

-- the whole of a report, or of two
abbrev pub whole : List ℕ → Option Command
whole word =
    if bytes_eq word (codes "page") then Some command.Page
    else if bytes_eq word (codes "pair") then Some command.Pair
    else None

-- the drawing of an inode
abbrev pub drawn : List ℕ → Asked → Option Command
drawn word asked =
    if bytes_eq word (codes "inode") then Some (command.Inode asked)
    else if bytes_eq word (codes "svg") then Some (command.Svg asked)
    else None

abbrev pub at_inode : List ℕ → List ℕ → Option Command
at_inode word inode = number_of inode >>= λ i. drawn word (record { inode = i; range = None })

abbrev pub at_places : List ℕ → List ℕ → List ℕ → List ℕ → Option Command
at_places word inode first last =
    number_of inode >>= λ i. number_of first >>= λ a. number_of last >>= λ b.
    drawn word (record { inode = i; range = Some (record { first = a; last = b }) })

-- what the words ask for
abbrev pub command_of : List (List ℕ) → Option Command
command_of [] = None
command_of (word ∷ []) = whole word
command_of (word ∷ inode ∷ []) = at_inode word inode
command_of (word ∷ inode ∷ first ∷ []) = None
command_of (word ∷ inode ∷ first ∷ last ∷ []) = at_places word inode first last
command_of (word ∷ inode ∷ first ∷ last ∷ more ∷ others) = None

-- the command asks for an inode, which a report may not have
abbrev pub AsksForInode : Command → Type 0
AsksForInode (command.Inode asked) = ⊤
AsksForInode (command.Svg asked) = ⊤
AsksForInode _ = ⊥

-- The parser's answer is the command that the words name.
use Rattle.std.proofs.Common.{◌≡◌, ◌||◌, ◌==◌, ℕ, Bool, true, false, List, [], ◌∷◌, Option, Some, None, refl, sym, ap, ◌∙◌}
use Rattle.std.specs.Prelude.{codes, cond, option_and_then, option_map}
use Rattle.std.specs.Str.{bytes_eq}
use Rattle.std.specs.List.{list_any}
use borrow.Author.Tests.{eqb-true}
use Rattle.clap.specs.declared.parser.ArgMatches.{ArgMatches}
use Rattle.clap.specs.Words.{HasMatchesOf, Row, is_simple, subcommand_rows_of}
use Rattle.clap.specs.Walk.{Text}
use Rattle.clap.specs.Kinds.{IsAmong, Kinds}
use Rattle.clap.specs.Simple.{App, subcommand_of}
use Rattle.clap.specs.Faults.{fault_of}
use Rattle.clap.specs.declared.error.kind.ErrorKind.{ErrorKind}
use Rattle.command_line.specs.declared.command.Command.TheVariants as command
use Rattle.command_line.specs.Program.{command_met, program}
use Rattle.command_line.specs.Words.{command_by, command_named, command_numbered, command_of, is_option, script_number}
use Rattle.command_line.proofs.Outcomes.{Outcome, met_in, outcome, refused, taken}

-- no kind of error is among an empty list of faults
none_among : (k : ErrorKind) (kinds : Kinds) → kinds ≡ [] → IsAmong k kinds → ⊥
none_among k [] e h = h
none_among k (x ∷ xs) e h = absurd (cc)

-- a subcommand that was met by name has the command of its name and number
named_command : (met : Option (Text × List Row)) (name : Text) (number : Option Text)
    → met_in met ≡ Some (name, number) → command_met met ≡ command_by name number
named_command None name number h = absurd (cc)
named_command (Some p) name number h =
    ap (option_and_then (λ (named : Text × Option Text). command_by named.0 named.1)) h

-- words that the parser takes are the command of the subcommand that it met
by_met : (words : List Text) → Outcome words → fault_of program words ≡ []
    → command_met (subcommand_of program words) ≡ command_of words
by_met words (refused r) none = absurd (cc (r.is, none))
by_met words (taken t) none =
    named_command (subcommand_of program words) t.name t.number t.met ∙ t.named

-- the command of the matches is that of the words, if the parser takes them
pub met_command : (a : App) (words : List Text) (m : ArgMatches) → a ≡ program
    → HasMatchesOf a words m → list_any is_option words ≡ false → fault_of a words ≡ []
    → command_met (subcommand_rows_of m) ≡ command_of words
met_command a words m is has options none =
    ap command_met ((has (ap is_simple is ∙ refl)).1
    ∙ ap (λ (b : App). subcommand_of b words) is)
    ∙ by_met words (outcome words options) (sym (ap (λ (b : App). fault_of b words) is) ∙ none)

-- words that the parser refuses aren't a command
by_refused : (words : List Text) (k : ErrorKind) → Outcome words
    → IsAmong k (fault_of program words) → command_of words ≡ None
by_refused words k (refused r) among = r.none
by_refused words k (taken t) among = absurd (none_among k (fault_of program words) t.is among)

pub refused_command : (words : List Text) (k : ErrorKind) → list_any is_option words ≡ false
    → IsAmong k (fault_of program words) → command_of words ≡ None
refused_command words k e among = by_refused words k (outcome words e) among

-- a test that holds of the one element of a list
or_false : (b : Bool) → (b || false) ≡ true → b ≡ true
or_false true h = refl
or_false false h = absurd (cc)

-- a word that begins with a hyphen names no command
hyphen_names_none : (b : ℕ) (bs : List ℕ) → b ≡ 45 → command_named (b ∷ bs) ≡ None
hyphen_names_none b bs h = rw h refl

option_names_none : (word : Text) → (is_option word || false) ≡ true → command_named word ≡ None
option_names_none [] h = absurd (cc)
option_names_none (b ∷ bs) h = hyphen_names_none b bs (eqb-true b 45 (or_false (b == 45) h))

hyphen_takes_none : (b : ℕ) (bs number : List ℕ) → b ≡ 45
    → command_numbered (b ∷ bs) number ≡ None
hyphen_takes_none b bs number h = rw h refl

-- a word that begins with a hyphen isn't a number
hyphen_is_no_number : (b : ℕ) (bs : List ℕ) → b ≡ 45 → script_number (b ∷ bs) ≡ None
hyphen_is_no_number b [] h = rw h refl
hyphen_is_no_number b (d ∷ more) h = rw h refl

-- no command has a number that isn't one
unnumbered : (is : Bool) (n : Option ℕ) → n ≡ None
    → cond is (option_map command.Gen n) None ≡ None
unnumbered true n h = rw h refl
unnumbered false n h = refl

numbered_none : (word number : List ℕ) (b : Bool) → is_option word ≡ b
    → (b || (is_option number || false)) ≡ true → command_numbered word number ≡ None
numbered_none [] number b e h = refl
numbered_none (x ∷ xs) number true e h = hyphen_takes_none x xs number (eqb-true x 45 e)
numbered_none (x ∷ xs) [] false e h = absurd (cc)
numbered_none (x ∷ xs) (y ∷ ys) false e h =
    unnumbered (bytes_eq (x ∷ xs) (codes "gen")) (script_number (y ∷ ys))
    (hyphen_is_no_number y ys (eqb-true y 45 (or_false (y == 45) h)))

-- words of which one begins with a hyphen aren't a command
pub option_command : (words : List Text) → list_any is_option words ≡ true
    → command_of words ≡ None
option_command [] h = refl
option_command (word ∷ []) h = option_names_none word h
option_command (word ∷ number ∷ []) h = numbered_none word number (is_option word) refl h
option_command (word ∷ number ∷ more ∷ others) h = refl

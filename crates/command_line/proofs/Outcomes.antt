-- The parser takes just those lists of words without options that are a command.
use Rattle.std.proofs.Common.{◌≡◌, ◌||◌, Bool, true, false, List, [], ◌∷◌, Option, Some, None, refl, sym, ap, ◌∙◌}
use Rattle.std.specs.Prelude.{codes, find, is_some, map, option_map}
use Rattle.std.specs.List.{fold, list_any}
use Rattle.std.specs.Str.{bytes_eq}
use Rattle.std.proofs.lemmas.Slice.Eq.{bytes_eq-Decides}
use Rattle.clap.specs.declared.error.kind.ErrorKind.{ErrorKind}
use Rattle.clap.specs.declared.error.kind.ErrorKind.TheVariants.{InvalidSubcommand, MissingRequiredArgument, MissingSubcommand, UnknownArgument}
use Rattle.clap.specs.Kinds.{Kinds, or_else}
use Rattle.clap.specs.Walk.{Row, Text, Walk, answers_to, finished, first_of, nothing_held, settled, subcommand_met, walk, walk_from, walked}
use Rattle.clap.specs.Walk.Waiting.{idle}
use Rattle.clap.specs.Simple.{App, Shape, built, built_leaf, entered, inherited, marked_built, names_of, new_shape, subcommand_of, with_leaf_noted}
use Rattle.clap.specs.Faults.{check_fault, defaults_fault, entered_fault, fault_of, is_simple_and_free, level_fault, settle_fault, turn_fault, walk_fault}
use Rattle.clap.proofs.FaultLemmas.{stopped_fault}
use Rattle.clap.proofs.WalkLemmas.{walk_stopped}
use Rattle.clap.proofs.OnLiterals.{clap_on_literals}
use Rattle.text_forms.specs.Tables.{look_up}
use Rattle.command_line.specs.Program.{numbered, program}
use Rattle.command_line.specs.Words.{command_by, command_numbered, command_of, is_option, lone_commands}
use Rattle.command_line.specs.declared.command.Command.{Command}
use Rattle.command_line.proofs.Strays.{stray_words, value_turn, value_walked, walk_at}

-- the parser refuses the words, and they aren't a command
pub record IsRefused (words : List Text) : Type 0 where
  pub kind : ErrorKind
  pub others : Kinds
  pub is : fault_of program words ≡ kind ∷ others
  pub none : command_of words ≡ None

-- the name of the subcommand that was met, and its number if there is one
abbrev pub met_in : Option (Text × List Row) → Option (Text × Option Text)
met_in = option_map (λ p. (p.0, first_of (codes "number") p.1))

-- the parser takes the words, and meets the subcommand of the command that they name, with the
-- command's number
pub record IsMet (words : List Text) : Type 0 where
  pub name : Text
  pub number : Option Text
  pub is : fault_of program words ≡ []
  pub met : met_in (subcommand_of program words) ≡ Some (name, number)
  pub named : command_by name number ≡ command_of words

-- the parser refuses the words or takes them
pub data Outcome (words : List Text) : Type 0 where
  refused : IsRefused words → Outcome words
  taken : IsMet words → Outcome words

-- the program is one for which `clap` states what it parses: no argument depends on another
pub simple : is_simple_and_free program ≡ true
simple = refl

-- the program as the parser builds it
abbrev whole : App
whole = built program

abbrev leaf_of : Shape → Shape
leaf_of s = built_leaf (inherited (with_leaf_noted (marked_built program.top)) s)

-- the walk after the word of a subcommand, where it stops
abbrev stopped_at : Text → List Text → Walk
stopped_at name words = record (walk_from nothing_held) { stopped = Some (name, words) }

-- the faults at the end of a walk: first those of the subcommand
abbrev by_end : Kinds → Walk → Kinds
by_end below w =
    or_else below
    (or_else (settle_fault whole.top.rules whole.top.args_override_self w.held)
    (or_else (defaults_fault (settled whole.top.rules w.held).rows whole.top.rules)
    (check_fault whole.top (finished whole.top.rules w.held) (is_some (entered whole w.stopped)))))

abbrev by_walk : Kinds → Walk → Kinds
by_walk first w = or_else first (by_end (entered_fault whole w.stopped) w)

-- the walk after further words
abbrev walk_on : Walk → List Text → Walk
walk_on w words = fold (walked whole.top.rules (names_of whole)) w words

abbrev fault_on : Walk → List Text → Kinds
fault_on w words = walk_fault whole.top (names_of whole) w words

-- the words after that of a subcommand are the subcommand's own
entered_words : (name : Text) (rest : List Text)
    → turn_fault whole.top (names_of whole) (walk_from nothing_held) name ≡ []
    → walked whole.top.rules (names_of whole) (walk_from nothing_held) name ≡ stopped_at name []
    → fault_of program (name ∷ rest)
    ≡ by_end (entered_fault whole (Some (name, rest))) (stopped_at name rest)
unfolding walk_fault
entered_words name rest turns stops =
    let after = walked whole.top.rules (names_of whole) (walk_from nothing_held) name in
    ap (λ (k : Kinds). by_walk (or_else k (fault_on after rest)) (walk_on after rest)) turns
    ∙ ap (λ (w : Walk). by_walk (fault_on w rest) (walk_on w rest)) stops
    ∙ ap (λ (k : Kinds). by_walk k (walk_on (stopped_at name []) rest))
    (stopped_fault whole.top (names_of whole) (walk_from nothing_held) (name, []) rest)
    ∙ ap (λ (w : Walk). by_walk [] w) (sym (walk_stopped whole.top.rules (names_of whole)
    (walk_from nothing_held) name [] rest))

-- a word that names a subcommand without arguments
record IsWord (name : Text) : Type 0 where
  turns : turn_fault whole.top (names_of whole) (walk_from nothing_held) name ≡ []
  stops : walked whole.top.rules (names_of whole) (walk_from nothing_held) name
      ≡ stopped_at name []
  lone : by_end (entered_fault whole (Some (name, []))) (stopped_at name []) ≡ []
  found : (rest : List Text) → entered_fault whole (Some (name, rest))
      ≡ level_fault (leaf_of (new_shape name)) [] nothing_held rest false []
  met : met_in (subcommand_of program (name ∷ [])) ≡ Some (name, None)
  numberless : (number : Text) → command_numbered name number ≡ None

-- if it is false that one of two tests holds, both are false
neither : (a b : Bool) → (a || b) ≡ false → (a ≡ false) × (b ≡ false)
neither true b h = absurd (cc)
neither false b h = (refl, h)

-- if no word is an option, the first isn't
first_is_none : (v : Text) (more : List Text) → list_any is_option (v ∷ more) ≡ false
    → is_option v ≡ false
first_is_none v more e = (neither (is_option v) (list_any is_option more) e).0

-- a word that takes no number isn't a command together with more words
no_more : (name v : Text) (more : List Text) → command_numbered name v ≡ None
    → command_of (name ∷ v ∷ more) ≡ None
no_more name v [] h = h
no_more name v (u ∷ more) h = refl

-- a word that takes no number is a command alone, and refused together with more words
word_outcome : (name : Text) (rest : List Text) → IsWord name → list_any is_option rest ≡ false
    → Outcome (name ∷ rest)
word_outcome name [] w e = taken (record {
  name = name;
  number = None;
  is = entered_words name [] w.turns w.stops ∙ w.lone;
  met = w.met;
  named = refl;
})
word_outcome name (v ∷ more) w e = refused (record {
  kind = UnknownArgument;
  others = [];
  is = entered_words name (v ∷ more) w.turns w.stops
      ∙ ap (λ (k : Kinds). by_end k (stopped_at name (v ∷ more)))
      (w.found (v ∷ more)
      ∙ stray_words (leaf_of (new_shape name)) [] v more false [] UnknownArgument [] refl
      (first_is_none v more e) refl refl);
  none = no_more name v more (w.numberless v);
})

-- a word of which this holds names a subcommand without arguments
is_word : (name : Text)
    → turn_fault whole.top (names_of whole) (walk_from nothing_held) name ≡ []
    → walked whole.top.rules (names_of whole) (walk_from nothing_held) name ≡ stopped_at name []
    → by_end (entered_fault whole (Some (name, []))) (stopped_at name []) ≡ []
    → ((rest : List Text) → entered_fault whole (Some (name, rest))
    ≡ level_fault (leaf_of (new_shape name)) [] nothing_held rest false [])
    → met_in (subcommand_of program (name ∷ [])) ≡ Some (name, None)
    → ((number : Text) → command_numbered name number ≡ None) → IsWord name
is_word name turns stops lone found met numberless = record {
  turns = turns;
  stops = stops;
  lone = lone;
  found = found;
  met = met;
  numberless = numberless;
}

-- each word of the table names a subcommand without arguments
abbrev AreWords : List (Text × Command) → Type 0
AreWords [] = Unit {0}
AreWords (e ∷ es) = IsWord e.0 × AreWords es

are_words : AreWords lone_commands
unfolding clap_on_literals
are_words = (
  is_word (codes "list") refl refl refl (λ rest. refl) refl (λ number. refl),
  (
    is_word (codes "policy") refl refl refl (λ rest. refl) refl (λ number. refl),
    (
      is_word (codes "label") refl refl refl (λ rest. refl) refl (λ number. refl),
      (
        is_word (codes "run") refl refl refl (λ rest. refl) refl (λ number. refl),
        (
          is_word (codes "buffers") refl refl refl (λ rest. refl) refl (λ number. refl),
          (
            is_word (codes "carry") refl refl refl (λ rest. refl) refl (λ number. refl),
            (
              is_word (codes "audit") refl refl refl (λ rest. refl) refl (λ number. refl),
              (is_word (codes "loads") refl refl refl (λ rest. refl) refl (λ number. refl), tt),
            ),
          ),
        ),
      ),
    ),
  ),
)

-- ---- the word that takes a number

abbrev gen_leaf : Shape
gen_leaf = leaf_of (numbered (codes "gen"))

gen_turns : turn_fault whole.top (names_of whole) (walk_from nothing_held) (codes "gen") ≡ []
unfolding clap_on_literals
gen_turns = refl

gen_stops : walked whole.top.rules (names_of whole) (walk_from nothing_held) (codes "gen")
    ≡ stopped_at (codes "gen") []
unfolding clap_on_literals
gen_stops = refl

-- the faults of the words after `gen` are those of its subcommand
gen_words : (rest : List Text) → fault_of program (codes "gen" ∷ rest)
    ≡ by_end (level_fault gen_leaf [] nothing_held rest false []) (stopped_at (codes "gen") rest)
unfolding clap_on_literals
gen_words rest = entered_words (codes "gen") rest gen_turns gen_stops

-- the walk after the number
abbrev after_number : Text → Walk
after_number number =
    walk_at (record { rows = []; pending = Some (codes "number", number ∷ []); skip = 0 }) 2

number_turns : (number : Text) → is_option number ≡ false
    → turn_fault gen_leaf [] (walk_from nothing_held) number ≡ []
number_turns number e = value_turn gen_leaf [] number 1 nothing_held e refl

number_walked : (number : Text) → is_option number ≡ false
    → walked gen_leaf.rules [] (walk_from nothing_held) number ≡ after_number number
number_walked number e = value_walked gen_leaf.rules [] number 1 nothing_held e refl

-- the faults at the end of the subcommand's words
abbrev at_end : Walk → Kinds
at_end w =
    or_else (settle_fault gen_leaf.rules gen_leaf.args_override_self w.held)
    (or_else (defaults_fault (settled gen_leaf.rules w.held).rows gen_leaf.rules)
    (check_fault gen_leaf (finished gen_leaf.rules w.held) false))

-- a number alone is taken
number_taken : (number : Text) → is_option number ≡ false
    → level_fault gen_leaf [] nothing_held (number ∷ []) false [] ≡ []
unfolding clap_on_literals
number_taken number e =
    ap (λ (k : Kinds). or_else (or_else k [])
    (at_end (walked gen_leaf.rules [] (walk_from nothing_held) number))) (number_turns number e)
    ∙ ap (λ (w : Walk). at_end w) (number_walked number e)

number_met : (number : Text) → is_option number ≡ false
    → met_in (subcommand_of program (codes "gen" ∷ number ∷ []))
    ≡ Some (codes "gen", Some number)
unfolding clap_on_literals
number_met number e =
    ap (λ (w : Walk). met_in (Some (codes "gen", finished gen_leaf.rules w.held)))
    (number_walked number e)

-- a further word after the number is refused
number_stray : (number v : Text) (more : List Text) → is_option number ≡ false
    → is_option v ≡ false
    → level_fault gen_leaf [] nothing_held (number ∷ v ∷ more) false [] ≡ UnknownArgument ∷ []
unfolding walk_fault
number_stray number v more e f =
    let w = walked gen_leaf.rules [] (walk_from nothing_held) number in
    let rest = walk_fault gen_leaf [] (walked gen_leaf.rules [] w v) more in
    let end = walk gen_leaf.rules [] nothing_held (number ∷ v ∷ more) in
    ap (λ (k : Kinds). or_else (or_else k (or_else (turn_fault gen_leaf [] w v) rest)) (at_end end))
    (number_turns number e)
    ∙ ap (λ (k : Kinds). or_else (or_else k rest) (at_end end))
    (ap (λ (x : Walk). turn_fault gen_leaf [] x v) (number_walked number e)
    ∙ value_turn gen_leaf [] v 2 (after_number number).held f refl)

gen_alone : by_end (level_fault gen_leaf [] nothing_held [] false []) (stopped_at (codes "gen") [])
    ≡ MissingRequiredArgument ∷ []
unfolding clap_on_literals
gen_alone = refl

gen_ended : (number : Text) → by_end [] (stopped_at (codes "gen") (number ∷ [])) ≡ []
unfolding clap_on_literals
gen_ended number = refl

-- `gen` is taken with one word after it, and otherwise refused
gen_outcome : (rest : List Text) → list_any is_option rest ≡ false → Outcome (codes "gen" ∷ rest)
gen_outcome [] e = refused (record {
  kind = MissingRequiredArgument;
  others = [];
  is = gen_words [] ∙ gen_alone;
  none = refl;
})
gen_outcome (number ∷ []) e = taken (record {
  name = codes "gen";
  number = Some number;
  is = gen_words (number ∷ [])
      ∙ ap (λ (k : Kinds). by_end k (stopped_at (codes "gen") (number ∷ [])))
      (number_taken number (first_is_none number [] e)) ∙ gen_ended number;
  met = number_met number (first_is_none number [] e);
  named = refl;
})
gen_outcome (number ∷ v ∷ more) e = refused (record {
  kind = UnknownArgument;
  others = [];
  is = gen_words (number ∷ v ∷ more)
      ∙ ap (λ (k : Kinds). by_end k (stopped_at (codes "gen") (number ∷ v ∷ more)))
      (number_stray number v more (first_is_none number (v ∷ more) e)
      (first_is_none v more
      (neither (is_option number) (list_any is_option (v ∷ more)) e).1));
  none = refl;
})

-- ---- all other words

-- if one text differs from another, the second differs from the first
unequal_by : (a b : Text) (r : Bool) → bytes_eq b a ≡ r → bytes_eq a b ≡ false → r ≡ false
unequal_by a b true e h =
    sym ((bytes_eq-Decides a b).1 (sym ((bytes_eq-Decides b a).0 e))) ∙ h
unequal_by a b false e h = refl

unequal : (a b : Text) → bytes_eq a b ≡ false → bytes_eq b a ≡ false
unequal a b h = unequal_by a b (bytes_eq b a) refl h

-- the word is none of the table
abbrev IsNone : Text → List (Text × Command) → Type 0
IsNone word [] = Unit {0}
IsNone word (e ∷ es) = (bytes_eq word e.0 ≡ false) × IsNone word es

-- the word names no command
pub record IsOther (word : Text) : Type 0 where
  pub lone : IsNone word lone_commands
  pub gen : bytes_eq word (codes "gen") ≡ false

-- a word other than the subcommand's name doesn't select it
not_it : (word name : Text) → bytes_eq word name ≡ false → answers_to word (name, []) ≡ false
not_it word name h = ap (λ (b : Bool). b || false) (unequal word name h)

-- a word that isn't in the table selects none of the table's subcommands
none_found : (word : Text) (es : List (Text × Command)) → IsNone word es
    → option_map (λ s. s.0) (find (answers_to word) (map (λ e. (e.0, [])) es)) ≡ None
none_found word [] o = refl
none_found word (e ∷ es) o = rw (not_it word e.0 o.0) (none_found word es o.1)

-- a word that names no command selects no subcommand
no_subcommand : (word : Text) → IsOther word → subcommand_met (names_of whole) idle word ≡ None
no_subcommand word o =
    rw (not_it word (codes "gen") o.gen) (none_found word lone_commands o.lone)

-- a word that isn't in the table has no entry there
no_entry : (word : Text) (es : List (Text × Command)) → IsNone word es → look_up es word ≡ None
no_entry word [] o = refl
no_entry word (e ∷ es) o = rw o.0 (no_entry word es o.1)

-- words that begin with a word that names no command aren't a command
no_command : (word : Text) (rest : List Text) → IsOther word → command_of (word ∷ rest) ≡ None
no_command word [] o = no_entry word lone_commands o.lone
no_command word (v ∷ []) o = rw o.gen refl
no_command word (v ∷ u ∷ more) o = refl

-- texts that the test finds equal are equal
text_is : (a b : Text) → bytes_eq a b ≡ true → a ≡ b
text_is a b h = (bytes_eq-Decides a b).0 h

-- the parser refuses words that begin with a word that names no command
other_outcome : (word : Text) (rest : List Text) → IsOther word → is_option word ≡ false
    → Outcome (word ∷ rest)
other_outcome word rest o e = refused (record {
  kind = UnknownArgument;
  others = InvalidSubcommand ∷ [];
  is = stray_words whole.top (names_of whole) word rest
      (is_some (entered whole (walk_on (walk_from nothing_held) (word ∷ rest)).stopped))
      (entered_fault whole (walk_on (walk_from nothing_held) (word ∷ rest)).stopped)
      UnknownArgument (InvalidSubcommand ∷ []) refl e (no_subcommand word o) refl;
  none = no_command word rest o;
})

-- the outcome of words of which the first is this word of the table, or else
by_first : (word : Text) (rest : List Text) (name : Text) (is : Bool) → bytes_eq word name ≡ is
    → IsWord name → list_any is_option rest ≡ false
    → (bytes_eq word name ≡ false → Outcome (word ∷ rest)) → Outcome (word ∷ rest)
by_first word rest name true h w more next =
    rw (text_is word name h) (word_outcome name rest w more)
by_first word rest name false h w more next = next h

-- the outcome of words of which the first is in the table, or else
by_table : (word : Text) (rest : List Text) (es : List (Text × Command)) → AreWords es
    → list_any is_option rest ≡ false → (IsNone word es → Outcome (word ∷ rest))
    → Outcome (word ∷ rest)
by_table word rest [] w more next = next tt
by_table word rest (e ∷ es) w more next =
    by_first word rest e.0 (bytes_eq word e.0) refl w.0 more
    (λ h. by_table word rest es w.1 more (λ o. next (h, o)))

-- the outcome of words of which the first isn't in the table
by_gen : (word : Text) (rest : List Text) (is : Bool) → bytes_eq word (codes "gen") ≡ is
    → IsNone word lone_commands → is_option word ≡ false → list_any is_option rest ≡ false
    → Outcome (word ∷ rest)
by_gen word rest true h o e more = rw (text_is word (codes "gen") h) (gen_outcome rest more)
by_gen word rest false h o e more = other_outcome word rest (record { lone = o; gen = h }) e

-- each list of words without options is either taken as its command or refused
pub outcome : (words : List Text) → list_any is_option words ≡ false → Outcome words
unfolding clap_on_literals
outcome [] e = refused (record { kind = MissingSubcommand; others = []; is = refl; none = refl })
outcome (word ∷ rest) e =
    let none = neither (is_option word) (list_any is_option rest) e in
    by_table word rest lone_commands are_words none.1
    (λ o. by_gen word rest (bytes_eq word (codes "gen")) refl o none.0 none.1)

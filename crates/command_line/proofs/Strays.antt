-- A word that is neither an option nor a subcommand is refused.
use Rattle.std.proofs.Common.{◌≡◌, ℕ, ◌&&◌, Bool, false, cond, List, [], ◌∷◌, Option, Some, None, refl, ap, ◌∙◌}
use Rattle.std.specs.Prelude.{option_and_then}
use Rattle.std.specs.Option.{option_map_or}
use Rattle.std.specs.Str.{bytes_eq}
use Rattle.clap.specs.Kinds.{Kinds, or_else}
use Rattle.clap.specs.declared.error.kind.ErrorKind.{ErrorKind}
use Rattle.clap.specs.Lexer.{long_of, long_of_rest, short_of, short_of_rest, strip_byte}
use Rattle.clap.specs.Walk.{Held, Names, Rule, Step, Text, arg_by_index, finished, long_or_other, nothing_held, settled, short_or_plain, subcommand_met, subcommand_or_other, walk, walk_from, walked, word_met, Walk, after_step}
use Rattle.clap.specs.Walk.Waiting.{idle}
use Rattle.clap.specs.Walk.Step.{trailing, value}
use Rattle.clap.specs.Simple.{Shape}
use Rattle.clap.specs.Faults.{bundle_fault, check_fault, defaults_fault, flag_word_fault, level_fault, other_fault, positional_fault, settle_fault, step_fault, stray_fault, turn_fault, walk_fault}
use Rattle.command_line.specs.Words.{is_option}

-- a word that isn't an option doesn't begin with a hyphen
no_hyphen : (word : Text) → is_option word ≡ false → strip_byte 45 word ≡ None
no_hyphen [] e = refl
no_hyphen (b ∷ bs) e = ap (λ (is : Bool). cond is (Some bs) None) e

no_long : (word : Text) → is_option word ≡ false → long_of word ≡ None
no_long word e = ap (λ (o : Option Text). option_and_then long_of_rest
    (option_and_then (strip_byte 45) o)) (no_hyphen word e)

no_short : (word : Text) → is_option word ≡ false → short_of word ≡ None
no_short word e = ap (λ (o : Option Text). option_and_then short_of_rest o) (no_hyphen word e)

no_dashes : (word : Text) → is_option word ≡ false → bytes_eq word (45 ∷ 45 ∷ []) ≡ false
no_dashes [] e = refl
no_dashes (b ∷ bs) e = ap (λ (is : Bool). is && bytes_eq bs (45 ∷ [])) e

-- a stray word is met as the value of a positional
is_value : (c : List Rule) (names : Names) (word : Text) (position : ℕ) (h : Held)
    → is_option word ≡ false → subcommand_met names idle word ≡ None
    → word_met c names false idle position word h ≡ (h, value)
is_value c names word position h e none =
    ap (λ (m : Option Text). subcommand_or_other c m idle position word h) none
    ∙ ap (λ (b : Bool). cond b (h, trailing position)
    (long_or_other c idle word (long_of word) h)) (no_dashes word e)
    ∙ ap (λ l. long_or_other c idle word l h) (no_long word e)
    ∙ ap (λ s. short_or_plain c idle word s h) (no_short word e)

-- a word that isn't an option has no fault of a flag
is_no_flag : (s : Shape) (word : Text) (h : Held) → is_option word ≡ false
    → other_fault s None word h ≡ []
is_no_flag s word h e =
    ap (λ (b : Bool). cond b []
    (flag_word_fault s.rules s.args_override_self (long_of word) word h))
    (no_dashes word e)
    ∙ ap (λ l. flag_word_fault s.rules s.args_override_self l word h) (no_long word e)
    ∙ ap (λ o. option_map_or (λ flags. bundle_fault s.rules s.args_override_self flags h) o [])
    (no_short word e)

-- a walk between two words, with no argument that waits for its value
abbrev pub walk_at : Held → ℕ → Walk
walk_at h position =
    record { held = h; waiting = idle; position = position; is_trailing = false; stopped = None }

-- the turn of a stray word is that of the value of a positional
pub value_turn : (s : Shape) (names : Names) (word : Text) (position : ℕ) (h : Held)
    → is_option word ≡ false → subcommand_met names idle word ≡ None
    → turn_fault s names (walk_at h position) word ≡ step_fault s position h value
value_turn s names word position h e none =
    let met = word_met s.rules names false idle position word h in
    ap (λ (k : Kinds). or_else k (step_fault s position met.0 met.1))
    (ap (λ (m : Option Text). other_fault s m word h) none ∙ is_no_flag s word h e)
    ∙ ap (λ (m : Held × Step). step_fault s position m.0 m.1)
    (is_value s.rules names word position h e none)

-- after a stray word the walk goes on as after the value of a positional
pub value_walked : (c : List Rule) (names : Names) (word : Text) (position : ℕ) (h : Held)
    → is_option word ≡ false → subcommand_met names idle word ≡ None
    → walked c names (walk_at h position) word ≡ after_step c word (walk_at h position) h value
unfolding walked
value_walked c names word position h e none =
    ap (λ (m : Held × Step). after_step c word (walk_at h position) m.0 m.1)
    (is_value c names word position h e none)

-- a command without arguments has no positional for a stray word
stray_turn : (s : Shape) (names : Names) (word : Text) → s.rules ≡ [] → is_option word ≡ false
    → subcommand_met names idle word ≡ None
    → turn_fault s names (walk_from nothing_held) word ≡ stray_fault s
stray_turn s names word bare e none =
    value_turn s names word 1 nothing_held e none
    ∙ ap (λ (rules : List Rule). option_map_or
    (λ a. positional_fault s.rules s.args_override_self a nothing_held) (arg_by_index rules 1)
    (stray_fault s)) bare

-- the other faults at one level, found after the walk over its words
abbrev pub after_walk : Shape → Names → List Text → Bool → Kinds → Kinds
after_walk s names words met below =
    let end = (walk s.rules names nothing_held words).held in
    or_else below (or_else (settle_fault s.rules s.args_override_self end)
    (or_else (defaults_fault (settled s.rules end).rows s.rules)
    (check_fault s (finished s.rules end) met)))

-- words that begin with a stray word are refused, whatever follows
pub stray_words : (s : Shape) (names : Names) (word : Text) (rest : List Text) (met : Bool)
    (below : Kinds) (k : ErrorKind) (ks : Kinds) → s.rules ≡ [] → is_option word ≡ false
    → subcommand_met names idle word ≡ None → stray_fault s ≡ k ∷ ks
    → level_fault s names nothing_held (word ∷ rest) met below ≡ k ∷ ks
unfolding walk_fault
stray_words s names word rest met below k ks bare e none stray =
    ap (λ (first : Kinds). or_else (or_else first (walk_fault s names
    (walked s.rules names (walk_from nothing_held) word) rest))
    (after_walk s names (word ∷ rest) met below))
    (stray_turn s names word bare e none ∙ stray)

-- The arguments of a call: what comes after the first word of its line.
use Rattle.std.specs.Prelude.{ℕ, Bool, true, false, ◌&&◌, ◌||◌, not, List, [], ◌∷◌, ◌++◌, codes, Option, Some, None, Result, Ok, Err, ok_or, if◌then◌else◌}
use Rattle.std.specs.Str.{bytes_eq}
use Rattle.call_steps.specs.events.Files.{is_exec, is_writer}
use Rattle.call_steps.specs.events.declared.deed.How.{How}
use Rattle.call_steps.specs.events.declared.deed.How.TheVariants as how
use Rattle.call_steps.specs.policy.RuleValue.{RuleValue}
use Rattle.policy_text.specs.Spelling.{rule_words}
use Rattle.text_forms.specs.Lines.{◌>>=◌}
use Rattle.text_forms.specs.Tables.{look_up}
use Rattle.script_words.specs.declared.fault.LineCause.{LineCause}
use Rattle.script_words.specs.declared.fault.LineCause.TheVariants as cause
use Rattle.script_words.specs.Forms.{rule_of}
use Rattle.call_lines.specs.Form.{Form, Value, form}
use Rattle.call_lines.specs.Lines.{Line}

infixr 5 ◌▸◌
-- the forms of words, in order
pub data Forms : Type 0 where
  -- no more words
  Alone : Forms
  -- a way of opening, and its flags
  Way : Forms
  -- a word of the first form, and then words of the others
  ◌▸◌ : Form → Forms → Forms

-- ---- ways of opening

-- optional `create`, then optional `trunc`
abbrev pub flags_of : List (List ℕ) → Option (Bool × Bool)
flags_of [] = Some (false, false)
flags_of (a ∷ []) = look_up ((codes "create", (true, false)) ∷ (codes "trunc", (false, true)) ∷ [])
    a
flags_of (a ∷ b ∷ []) = if bytes_eq a (codes "create") && bytes_eq b (codes "trunc")
    then Some (true, true) else None
flags_of _ = None

-- how a file is opened and whether it is truncated; only a file open for writing can be
abbrev pub opened : List ℕ → Bool → Bool → Option (How × Bool)
opened way create trunc =
    if bytes_eq way (codes "r") then (if trunc then None else Some (how.Read create, false))
    else if bytes_eq way (codes "w") then Some (how.Write false create, trunc)
    else if bytes_eq way (codes "rw") then Some (how.Write true create, trunc)
    else None

-- how a file is opened, if the flags have their form
abbrev pub opened_by : List ℕ → Option (Bool × Bool) → Option (How × Bool)
opened_by way None = None
opened_by way (Some flags) = opened way flags.0 flags.1

-- how a file is opened and whether it is truncated, by the word for the way and the flags
abbrev pub way_of : List (List ℕ) → Option (How × Bool)
way_of [] = None
way_of (way ∷ flags) = opened_by way (flags_of flags)

-- the canonical words of a way of opening; there are none for an execution
abbrev pub way_words : How → List (List ℕ)
way_words (how.Read true) = codes "r" ∷ codes "create" ∷ []
way_words (how.Read false) = codes "r" ∷ []
way_words (how.Write true true) = codes "rw" ∷ codes "create" ∷ []
way_words (how.Write true false) = codes "rw" ∷ []
way_words (how.Write false true) = codes "w" ∷ codes "create" ∷ []
way_words (how.Write false false) = codes "w" ∷ []
way_words how.Exec = []

-- the word `trunc` if the file is truncated, or else none
abbrev pub trunc_words : Bool → List (List ℕ)
trunc_words true = codes "trunc" ∷ []
trunc_words false = []

-- the file is opened for reading or writing, and truncated only for writing
abbrev pub is_way : How × Bool → Bool
is_way o = (is_writer o.0 || not o.1) && not (is_exec o.0)

-- ---- words, one after another

-- what words of these forms say
abbrev pub Values : Forms → Type 0
Values Alone = Unit {0}
Values Way = How × Bool
Values (f ▸ fs) = Value f × Values fs

-- two results of one line: its cause is the first in the order of the causes, so that a path is
-- unknown only if each word has its form
abbrev pub both : {A B : Type 0} → Result A LineCause → Result B LineCause
    → Result (A × B) LineCause
both (Ok x) r = r >>= λ y. Ok (x, y)
both (Err cause.Unknown) r = r >>= λ y. Err cause.Unknown
both (Err c) r = Err c

-- what no words say; any word is refused
abbrev pub no_words : List (List ℕ) → Result (Unit {0}) LineCause
no_words [] = Ok tt
no_words (w ∷ ws) = Err cause.BadField

-- a first word and those after it
abbrev pub word_first : {A B : Type 0} → (List ℕ → Result A LineCause)
    → (List (List ℕ) → Result B LineCause) → List (List ℕ) → Result (A × B) LineCause
word_first first rest [] = Err cause.BadField
word_first first rest (w ∷ ws) = both (first w) (rest ws)

-- what the words say, if the files have these paths
abbrev pub values_of : List (List ℕ) → (fs : Forms) → List (List ℕ) → Result (Values fs) LineCause
values_of paths Alone = no_words
values_of paths Way = λ ws. ok_or (way_of ws) cause.BadField
values_of paths (f ▸ fs) = word_first ((form f).read paths) (values_of paths fs)

-- the canonical words
abbrev pub words_of : List (List ℕ) → (fs : Forms) → Values fs → Line
words_of paths Alone u = []
words_of paths Way o = way_words o.0 ++ trunc_words o.1
words_of paths (f ▸ fs) v = (form f).word paths v.0 ∷ words_of paths fs v.1

-- whether words can say this in a script with this many files
abbrev pub are_fit : ℕ → (fs : Forms) → Values fs → Bool
are_fit files Alone u = true
are_fit files Way o = is_way o
are_fit files (f ▸ fs) v = (form f).fits files v.0 && are_fit files fs v.1

-- ---- words, or the text of a rule

-- the form of a call's arguments
pub data Arguments : Type 0 where
  -- the rest of the line is a rule
  Rule : Arguments
  Words : Forms → Arguments

-- what arguments of this form say
abbrev pub Said : Arguments → Type 0
Said Rule = RuleValue
Said (Words fs) = Values fs

-- what the text after the first word says, which has these words
abbrev pub said_of : List (List ℕ) → (a : Arguments) → Option (List ℕ) → List (List ℕ)
    → Result (Said a) LineCause
said_of paths Rule text words = rule_of text
said_of paths (Words fs) text words = values_of paths fs words

-- the canonical words of the arguments
abbrev pub argument_words : List (List ℕ) → (a : Arguments) → Said a → Line
argument_words paths Rule r = rule_words r
argument_words paths (Words fs) v = words_of paths fs v

-- whether arguments can say this in a script with this many files
abbrev pub is_fit : ℕ → (a : Arguments) → Said a → Bool
is_fit files Rule r = true
is_fit files (Words fs) v = are_fit files fs v

-- ---- a function of what is said, one argument after another

-- a function to X that takes what the words say, one value after another
abbrev pub Of : Forms → Type 0 → Type 0
Of Alone X = X
Of Way X = How → Bool → X
Of (f ▸ fs) X = Value f → Of fs X

-- the result of such a function for what the words say
abbrev pub applied : {X : Type 0} (fs : Forms) → Of fs X → Values fs → X
applied Alone x u = x
applied Way f o = f o.0 o.1
applied (f ▸ fs) g v = applied fs (g v.0) v.1

-- a function of all that the words say, as one that takes one value after another
abbrev pub each : {X : Type 0} (fs : Forms) → (Values fs → X) → Of fs X
each Alone g = g tt
each Way g = λ how trunc. g (how, trunc)
each (f ▸ fs) g = λ x. each fs (λ v. g (x, v))

-- a function to X that takes what the arguments say, one value after another
abbrev pub OfSaid : Arguments → Type 0 → Type 0
OfSaid Rule X = RuleValue → X
OfSaid (Words fs) X = Of fs X

-- the result of such a function for what the arguments say
abbrev pub made_by : {X : Type 0} (a : Arguments) → OfSaid a X → Said a → X
made_by Rule f r = f r
made_by (Words fs) f v = applied fs f v

-- a function of all that the arguments say, as one that takes one value after another
abbrev pub each_by : {X : Type 0} (a : Arguments) → (Said a → X) → OfSaid a X
each_by Rule g = g
each_by (Words fs) g = each fs g

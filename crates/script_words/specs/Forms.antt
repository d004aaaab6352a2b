-- The forms of words: numbers with their ranges, and the text of a rule.
use Rattle.std.specs.Prelude.{ℕ, ◌-◌, ◌==◌, List, length, drop, Option, Some, None, Result, Ok, Err, ok_or, if◌then◌else◌}
use Rattle.inode_pages.specs.Content.{most_bytes}
use Rattle.policy_text.specs.rules.Key.{starts}
use Rattle.policy_text.specs.rules.RuleValue.{RuleValue}
use Rattle.policy_text.specs.declared.fault.RuleCause.{RuleCause}
use Rattle.policy_text.specs.Grammar as policy
use Rattle.text_forms.specs.Lines.{◌>>=◌}
use Rattle.text_forms.specs.Numbers.{short_number_of}
use Rattle.script_words.specs.declared.fault.LineCause.{LineCause}
use Rattle.script_words.specs.declared.fault.LineCause.TheVariants as cause

-- the text after a key, if it begins with that key
abbrev pub after_key : List ℕ → List ℕ → Option (List ℕ)
after_key key text = if starts text key then Some (drop (length key) text) else None

abbrev pub read_by : {A : Type 0} → (List ℕ → Option A) → Option (List ℕ) → Option A
read_by form None = None
read_by form (Some text) = form text

abbrev pub after_key_by : {A : Type 0} → (List ℕ → Option A) → List ℕ → List ℕ → Option A
after_key_by form key text = read_by form (after_key key text)

abbrev pub descriptor_of : List ℕ → Option ℕ
descriptor_of text = short_number_of 10 255 text

-- the number of a map, a run or a semaphore
abbrev pub small_of : List ℕ → Option ℕ
small_of text = short_number_of 10 63 text

-- the number of a user or a group, or a generation
abbrev pub id_of : List ℕ → Option ℕ
id_of text = short_number_of 10 0xffff_ffff text

abbrev pub ino_of : List ℕ → Option ℕ
ino_of text = short_number_of 10 0xffff_ffff_ffff_ffff text

abbrev pub offset_of : List ℕ → Option ℕ
offset_of text = short_number_of 10 0xffff_ffff text

-- a word of the wrong form is refused before it is asked whether the thing that it names exists
abbrev pub field : {A B : Type 0} → Option A → (A → Result B LineCause) → Result B LineCause
field value f = ok_or value cause.BadField >>= f

abbrev pub if_any : Option ℕ → Option ℕ
if_any None = None
if_any (Some n) = if n == 0 then None else Some n

-- the length of one read: at least one byte, and at most as many as a content may have
abbrev pub portion_of : List ℕ → Option ℕ
portion_of text = if_any (short_number_of 10 most_bytes text)

-- a mode: octal digits, at most 177777
abbrev pub mode_of : List ℕ → Option ℕ
mode_of text = short_number_of 8 0xffff text

-- the number, if it is below the count
abbrev pub place_among : ℕ → List ℕ → Option ℕ
place_among count text = if count == 0 then None else short_number_of 10 (count - 1) text

abbrev pub bad_rule : {A : Type 0} → Result A RuleCause → Result A LineCause
bad_rule (Ok rule) = Ok rule
bad_rule (Err c) = Err (cause.BadRule c)

-- the rule of the text after the first space
abbrev pub rule_of : Option (List ℕ) → Result RuleValue LineCause
rule_of None = Err cause.BadField
rule_of (Some text) = bad_rule (policy.rule_of text)

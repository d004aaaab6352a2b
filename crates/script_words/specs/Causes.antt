-- The words of the causes.
use Rattle.std.specs.Prelude.{ℕ, List, ◌++◌, codes}
use Rattle.policy_text.specs.Spelling as rules
use Rattle.script_words.specs.declared.fault.LineCause.{LineCause}
use Rattle.script_words.specs.declared.fault.LineCause.TheVariants as cause

abbrev pub cause_word : LineCause → List ℕ
cause_word cause.BadWord = codes "bad-word"
cause_word cause.OutOfPlace = codes "out-of-place"
cause_word cause.BadField = codes "bad-field"
cause_word cause.Unknown = codes "unknown"
cause_word cause.Twice = codes "twice"
cause_word (cause.BadRule c) = codes "bad-rule"
cause_word cause.TooMany = codes "too-many"
cause_word cause.TooLarge = codes "too-large"
cause_word cause.NoEnd = codes "no-end"
cause_word cause.Locked = codes "locked"

-- the word of the cause, followed for a bad rule by the word of the rule's own cause
abbrev pub cause_text : LineCause → List ℕ
cause_text (cause.BadRule c) = codes "bad-rule " ++ rules.cause_word c
cause_text c = cause_word c

-- Each line preserves the invariant of a script, and so does a whole text.
use Rattle.std.proofs.Common.{◌≡◌, ℕ, ◌+◌, Bool, true, false, List, [], ◌∷◌, Option, Result, Ok, Err, IfOk, if◌then◌else◌, ◌==◌, lit≤, refl, subst}
use Rattle.text_forms.specs.Lines.{◌>>=◌, at_line, lines}
use Rattle.script_words.specs.declared.fault.Fault.{Fault}
use Rattle.script_words.specs.declared.fault.LineCause.{LineCause}
use Rattle.script_words.specs.declared.fault.LineCause.TheVariants as cause
use Rattle.script_words.specs.Line.{all_fields, cut_line, fields, is_skipped}
use Rattle.script_words.specs.Read.{fault_at, from_ended, step_over, text_of}
use Rattle.script_text.specs.Draft.{Draft, start}
use Rattle.script_text.specs.Forms.{IsScript}
use Rattle.script_text.specs.Grammar.{add, placed, with_head}
use Rattle.script_text.specs.Heads.{head_of, is_over, rank, stands}
use Rattle.script_text.specs.declared.head.Head.{Head}
use Rattle.script_text.specs.declared.head.Head.TheVariants as head
use Rattle.script_text.proofs.FileForms.{zeros_are}
use Rattle.call_lines.proofs.Holding.{given, right_true, tested}
use Rattle.script_text.proofs.FilesKept.{absent_kept, attr_kept, file_kept, seal_kept}
use Rattle.script_text.proofs.SettingsKept.{IsDraft, Keeps, boot_kept, format_kept, hash_kept, key_kept, mode_kept, name_kept, script_from, super_kept, template_kept, version_kept}
use Rattle.script_text.proofs.TasksKept.{call_line_kept, rounds_kept, rule_kept, schedule_kept, task_kept, threads_kept}

-- a line that can follow those before it preserves the invariant
head_kept : (k : Head) (text : Option (List ℕ)) (words : List (List ℕ)) (d : Draft) → IsDraft d
    → stands k d ≡ true → Keeps (with_head k text words (record d { at = rank k }))
unfolding with_head
head_kept head.Imakern text words d h e = version_kept words (record d { at = rank head.Imakern }) h
head_kept head.Hash text words d h e = hash_kept words (record d { at = rank head.Hash }) h
head_kept head.Template text words d h e =
    template_kept words (record d { at = rank head.Template }) h
head_kept head.Boot text words d h e = boot_kept words (record d { at = rank head.Boot }) h
head_kept head.Appraise text words d h e = mode_kept words (record d { at = rank head.Appraise }) h
head_kept head.Evm text words d h e = key_kept words (record d { at = rank head.Evm }) h
head_kept head.EvmXattrs text words d h e = name_kept words (record d { at = rank head.EvmXattrs })
    h
head_kept head.EvmFormat text words d h e =
    format_kept words (record d { at = rank head.EvmFormat }) h
head_kept head.Fs text words d h e = super_kept words (record d { at = rank head.Fs }) h
head_kept head.File text words d h e = file_kept words (record d { at = rank head.File }) h
head_kept head.Absent text words d h e = absent_kept words (record d { at = rank head.Absent }) h
head_kept head.Attr text words d h e = attr_kept words (record d { at = 10 }) h
    (right_true (d.at == 10) d.unsealed e)
head_kept head.Seal text words d h e = seal_kept words (record d { at = 10 }) h
    (right_true (d.at == 10) d.unsealed e)
head_kept head.Task text words d h e = task_kept words (record d { at = rank head.Task }) h
head_kept head.Rounds text words d h e = rounds_kept words (record d { at = rank head.Rounds }) h
head_kept head.Threads text words d h e = threads_kept words (record d { at = rank head.Threads }) h
head_kept head.Rule text words d h e = rule_kept text (record d { at = 11 }) h
head_kept (head.Call w) text words d h e = call_line_kept w text words (record d { at = 12 }) h
head_kept head.Schedule text words d h e = schedule_kept (all_fields text) (record d { at = 13 }) h

placed_kept : (k : Head) (text : Option (List ℕ)) (d : Draft) → IsDraft d
    → Keeps (placed k text d)
unfolding placed
placed_kept k text d h =
    tested IsDraft (stands k d) (with_head k text (fields text) (record d { at = rank k }))
    (Err cause.OutOfPlace) (λ e. head_kept k text (fields text) d h e) (λ e. tt)

line_kept : (d : Draft) (line : List ℕ) → IsDraft d → Keeps (add d line)
unfolding add
line_kept d line h =
    given IsDraft (head_of (cut_line line).0) cause.BadWord (λ k. placed k (cut_line line).1 d)
    (λ k _. placed_kept k (cut_line line).1 d h)

abbrev Reads : Result Draft (Fault LineCause) → Type 0
Reads r = IfOk r IsDraft

then_kept : (n : ℕ) (r : Result Draft LineCause) (f : Draft → Result Draft (Fault LineCause))
    → Keeps r
    → ((d : Draft) → IsDraft d → Reads (f d)) → Reads (at_line fault_at n r >>= f)
then_kept n (Err c) f h k = tt
then_kept n (Ok d) f h k = k d h

over_kept : (b : Bool) (d : Draft) (line : List ℕ) → IsDraft d
    → Keeps (if b then Ok d else add d line)
over_kept true d line h = h
over_kept false d line h = line_kept d line h

if_ends : (b : Bool) (d : Draft) (f : Fault LineCause) → IsDraft d → Reads (if b then Ok d else Err f)
if_ends true d f h = h
if_ends false d f h = tt

lines_kept : (ls : List (List ℕ)) (n : ℕ) (d : Draft) → IsDraft d
    → Reads (from_ended add is_over n d ls)
lines_kept [] n d h = h
lines_kept (rest ∷ []) n d h = if_ends _ d (fault_at n cause.NoEnd) h
lines_kept (line ∷ next ∷ ls) n d h =
    then_kept n (step_over add d line) (λ t. from_ended add is_over (n + 1) t (next ∷ ls))
    (over_kept (is_skipped line) d line h) (λ t k. lines_kept (next ∷ ls) (n + 1) t k)

start_is : IsDraft start
start_is = (
  refl,
  zeros_are _,
  refl,
  record { forms = refl; new = refl; few = lit≤ tt },
  refl,
  record { forms = refl; few = lit≤ tt },
  record { each = tt; apart = refl; few = lit≤ tt },
  record { are = refl; same = refl },
  record { forms = refl; few = lit≤ tt },
  record { calls = lit≤ tt; few = lit≤ tt; appended = lit≤ tt; rules = lit≤ tt },
  refl,
  tt,
  record { counted = lit≤ tt; all = lit≤ tt; few = lit≤ tt },
)

whole : (r : Result Draft (Fault LineCause)) (d : Draft) → Reads r → r ≡ Ok d → IsDraft d
whole (Err f) d h e = absurd (cc e)
whole (Ok x) d h e = let same : x ≡ d = cc e in subst IsDraft same h

-- the result of a text is a script
pub script_is : (text : List ℕ) (d : Draft) → text_of add is_over start text ≡ Ok d
    → IsScript d.script
script_is text d e =
    script_from d
    (whole (text_of add is_over start text) d (lines_kept (lines text) 1 start start_is) e)

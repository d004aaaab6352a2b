-- Rules, the blocks of tasks, and the ending line.
use Rattle.std.specs.Prelude.{ℕ, ◌+◌, Bool, true, false, ◌&&◌, not, nat_lt, List, [], ◌∷◌, ◌++◌, length, Option, Some, None, Ok, Err, ok_or, if◌then◌else◌}
use Rattle.call_steps.specs.declared.call.Call.{Call}
use Rattle.call_steps.specs.declared.call.Call.TheVariants as call
use Rattle.call_steps.specs.declared.ending.Ending.{Ending}
use Rattle.call_steps.specs.declared.ending.Ending.TheVariants as ending
use Rattle.inode_meta.specs.declared.identity.Cred.{Cred}
use Rattle.text_forms.specs.Lines.{◌>>=◌}
use Rattle.script_words.specs.declared.fault.LineCause.TheVariants as cause
use Rattle.script_words.specs.Forms.{field, rule_of}
use Rattle.call_lines.specs.Calls.{call_of}
use Rattle.script_text.specs.Draft.{Draft, change_last}
use Rattle.script_fields.specs.Limits.{most_bytes, most_calls, most_rules, most_tasks}
use Rattle.script_text.specs.Settings.{Made, one_if}
use Rattle.script_text.specs.declared.blocks.TaskBlock.{TaskBlock}
use Rattle.call_lines.specs.declared.table.CallWord.{CallWord}
use Rattle.script_fields.specs.TaskFields.{cred_in, threads_of, turns_of}

-- ---- rules

-- there is room for one more rule, of the script or of a task
abbrev pub has_room : Draft → Bool
has_room d = nat_lt (length d.script.rules + d.appended) most_rules

-- `rule TEXT`
unfoldable pub with_rule : Option (List ℕ) → Draft → Made
with_rule text d =
    rule_of text >>= λ r.
    if has_room d
    then Ok (record d { script = record d.script { rules = d.script.rules ++ r ∷ [] } })
    else Err cause.TooMany

-- ---- tasks

unfoldable pub with_cred : Cred → Draft → Made
with_cred c d =
    if nat_lt (length d.script.tasks) most_tasks
    then Ok (record d {
      script = record d.script { tasks = d.script.tasks ++ record { cred = c; calls = [] } ∷ [] };
    })
    else Err cause.TooMany

unfoldable pub with_task : List (List ℕ) → Draft → Made
with_task words d = field (cred_in words) λ c. with_cred c d

-- ---- calls

abbrev pub value_length : Option (List ℕ) → ℕ
value_length None = 0
value_length (Some bytes) = length bytes

-- the number of bytes of a call that count in the sum
abbrev pub call_bytes : Call → ℕ
call_bytes (call.Write fd from bytes) = length bytes
call_bytes (call.SetAttr inode name value) = value_length value
call_bytes _ = 0

abbrev pub appends : Call → Bool
appends (call.AddRule rule) = true
appends _ = false

-- the task with a call appended
abbrev pub task_with : Call → TaskBlock → TaskBlock
task_with c t = record t { calls = t.calls ++ c ∷ [] }

abbrev pub called : Call → Draft → Draft
called c d =
    record d {
      script = record d.script { tasks = change_last (task_with c) d.script.tasks };
      calls = d.calls + 1;
      appended = d.appended + one_if (appends c);
      sum = d.sum + call_bytes c;
    }

unfoldable pub with_call : Call → Draft → Made
with_call c d =
    if not (nat_lt d.calls most_calls) then Err cause.TooMany
    else if appends c && not (has_room d) then Err cause.TooMany
    else if nat_lt most_bytes (d.sum + call_bytes c) then Err cause.TooLarge
    else Ok (called c d)

unfoldable pub with_call_line : CallWord → Option (List ℕ) → List (List ℕ) → Draft → Made
with_call_line w text words d = call_of w text words d.paths >>= λ c. with_call c d

-- ---- the end

abbrev pub ended : Ending → Draft → Draft
ended e d = record d { script = record d.script { ending = e } }

-- `schedule` and the numbers of tasks
unfoldable pub with_schedule : List (List ℕ) → Draft → Made
with_schedule words d = turns_of (length d.script.tasks) words >>= λ turns. Ok
    (ended (ending.Schedule turns) d)

unfoldable pub with_rounds : List (List ℕ) → Draft → Made
with_rounds [] d = Ok (ended ending.Rounds d)
with_rounds _ d = Err cause.BadField

-- `threads NUM`
unfoldable pub with_threads : List (List ℕ) → Draft → Made
with_threads (w ∷ []) d =
    ok_or (threads_of w) cause.BadField >>= λ n. Ok (ended (ending.Threads n) d)
with_threads _ d = Err cause.BadField

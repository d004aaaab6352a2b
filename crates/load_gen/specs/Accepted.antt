-- The grammar of scripts accepts the text, as a script with all its files, rules and tasks.
use Rattle.std.specs.Prelude.{◌≡◌, ℕ, Bool, true, false, not, List, MatchResult, length}
use Rattle.std.specs.List.{list_all}
use Rattle.call_steps.specs.declared.call.Call.{Call}
use Rattle.call_steps.specs.declared.call.Call.TheVariants as call
use Rattle.call_steps.specs.declared.ending.Ending.TheVariants.{Rounds}
use Rattle.script_text.specs.Grammar.{script_of}
use Rattle.script_text.specs.ScriptValue.{ScriptValue}
use Rattle.script_text.specs.declared.blocks.TaskBlock.{TaskBlock}

-- whether the call may wait for another task
abbrev pub waits : Call → Bool
waits (call.Wait sem) = true
waits _ = false

-- whether no call of the task may wait
abbrev pub never_waits : TaskBlock → Bool
never_waits t = list_all (λ c. not (waits c)) t.calls

pub record IsLoad (s : ScriptValue) : Type 0 where
  pub files : length s.files ≡ 64
  pub rules : length s.rules ≡ 2
  pub tasks : length s.tasks ≡ 16
  pub ending : s.ending ≡ Rounds
  pub free : list_all never_waits s.tasks ≡ true

-- the grammar accepts the text as a generated script
abbrev pub IsAccepted : List ℕ → Type 0
IsAccepted text = MatchResult (script_of text) IsLoad (λ f. ⊥)

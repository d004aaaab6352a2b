-- The grammar of scripts accepts a generated text.
use Rattle.std.proofs.Common.{◌≡◌, ℕ, true, false, List, [], ◌++◌, MatchResult, Ok, Result, refl, sym, subst, arith}
use Rattle.std.specs.Prelude.{codes}
use Rattle.call_steps.specs.declared.ending.Ending.TheVariants.{Rounds}
use Rattle.script_words.specs.declared.fault.Fault.{Fault}
use Rattle.script_words.specs.declared.fault.LineCause.{LineCause}
use Rattle.script_text.specs.Draft.{Draft, start}
use Rattle.script_text.specs.Grammar.{script_of, with_head}
use Rattle.script_text.specs.Heads.{is_over}
use Rattle.script_text.specs.ScriptValue.{ScriptValue}
use Rattle.script_text.specs.Tasks.{ended, with_rounds}
use Rattle.script_text.specs.declared.head.Head.TheVariants as head
use Rattle.script_spelling.specs.Lines.{lines_text}
use Rattle.script_spelling.proofs.Many.{above}
use Rattle.script_spelling.proofs.Steps.{text_read}
use Rattle.load_gen.specs.Accepted.{IsAccepted, IsLoad}
use Rattle.load_gen.specs.Script.{files, rules_text, script_text, settings_text, tasks}
use Rattle.load_gen.proofs.FilesRead.{HasFiles, files_read, no_files}
use Rattle.load_gen.proofs.Makes.{Makes, and_then, by_line, weaker}
use Rattle.load_gen.proofs.SettingsRead.{IsSet, settings_read}
use Rattle.load_gen.proofs.TasksRead.{HasRules, HasTasks, no_rules, no_tasks, rules_read, tasks_read}

-- the draft after a whole text
pub record IsWhole (d : Draft) : Type 0 where
  pub over : is_over d ≡ true
  pub script : IsLoad d.script

abbrev over : Draft → Draft
over d = record (ended Rounds d) { at = 13 }

end_read : (n : ℕ) (d : Draft) → HasTasks 16 n d → Makes d (codes "rounds\n") IsWhole
unfolding with_head with_rounds
end_read n d h =
    by_line (codes "rounds") [] head.Rounds d (over d) IsWhole refl refl refl refl
    (above 13 d.at 12 false h.at (omega arith)) refl (record {
      over = refl;
      script = record {
        files = h.files;
        rules = h.rules;
        tasks = h.tasks;
        ending = refl;
        free = h.free;
      };
    })

module _ (number : ℕ) where
  abbrev of_files : List ℕ
  of_files = (files 64 0 number).text

  abbrev state : ℕ
  state = (files 64 0 number).state

  files_made : Makes start (settings_text ++ of_files) (HasRules 0)
  files_made =
      and_then start settings_text of_files IsSet (HasRules 0) settings_read
      (λ d h. weaker d of_files (HasFiles 64) (HasRules 0) (no_rules 64 refl)
      (files_read 64 0 number d (no_files d h) (omega arith)))

  rules_made : Makes start (settings_text ++ of_files ++ rules_text) (HasTasks 0 0)
  rules_made =
      and_then start (settings_text ++ of_files) rules_text (HasRules 0) (HasTasks 0 0) files_made
      (λ d h. weaker d rules_text (HasRules 2) (HasTasks 0 0) no_tasks (rules_read d h))

  tasks_made : Makes start (settings_text ++ of_files ++ rules_text ++ tasks 16 0 state)
      (HasTasks 16 3072)
  tasks_made =
      and_then start (settings_text ++ of_files ++ rules_text) (tasks 16 0 state) (HasTasks 0 0)
      (HasTasks 16 3072) rules_made
      (λ d h. tasks_read 16 0 state 0 d h (omega arith) (omega arith))

  whole : Makes start (script_text number) IsWhole
  whole =
      and_then start (settings_text ++ of_files ++ rules_text ++ tasks 16 0 state)
      (codes "rounds\n") (HasTasks 16 3072) IsWhole tasks_made (end_read 3072)

  -- the text is accepted as a script with all its files, rules and tasks
  pub accepted : IsAccepted (script_text number)
  accepted =
      let m = whole in
      let read : script_of (lines_text m.lines) ≡ Ok m.to.script =
      text_read m.lines m.to m.reads m.is.over in
      let P : Result ScriptValue (Fault LineCause) → Type 0 = λ r. MatchResult r IsLoad (λ f. ⊥) in
      let R : List ℕ → Type 0 = λ t. IsAccepted t in
      subst R m.spelled (subst P (sym read) m.is.script)

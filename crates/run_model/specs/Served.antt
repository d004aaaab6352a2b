-- When journals, appended rules and replies come from the tasks' calls.
use Rattle.std.specs.Prelude.{◌≡◌, ℕ, ◌+◌, ◌<◌, ◌≤◌, All, List, [], ◌∷◌, length, map, max, Option, Some, None, slice_get, take}
use Rattle.policy_cell.specs.growing.Entries.{entries_of}
use Rattle.call_steps.specs.policy.RuleValue.{RuleValue}
use Rattle.call_steps.specs.policy.declared.rule.Func.{Func}
use Rattle.call_steps.specs.events.Callers.{caller_of}
use Rattle.call_steps.specs.events.NewestFirst.{newest_first}
use Rattle.call_steps.specs.events.State.{metadata}
use Rattle.call_steps.specs.events.declared.deed.Deed.{Deed}
use Rattle.call_steps.specs.events.declared.deed.Deed.TheVariants as deed
use Rattle.call_steps.specs.events.declared.told.Event.{Event}
use Rattle.call_steps.specs.events.declared.told.Told.TheVariants as told
use Rattle.call_steps.specs.templates.declared.entry.Entry.{Entry}
use Rattle.call_steps.specs.CallState.{Step}
use Rattle.call_steps.specs.CallState.{Nothing, Does, Checks, Signals, Appends}
use Rattle.run_model.specs.History.{Answer, Position, own, own_rules, plain_answer, position, step_at}
use Rattle.run_model.specs.Scene.{Program, Scene, ScriptFile, decided, mode_of, rules_with}
use Rattle.policy_cell.specs.declared.cell.RuleEntry.{RuleEntry}

-- a run as it is shown: the journal of each inode, oldest event first, the measurement list, the
-- appended rules, and the position of each task
pub record Run : Type 0 where
  pub journals : List (List Event)
  pub list : List Entry
  pub added : List RuleEntry
  pub positions : List Position

abbrev pub final_rules : Scene → Run → List RuleValue
final_rules scene run = rules_with scene run.added

-- ---- the entries of a task

-- the events of task n in a journal, each with its place
abbrev pub events_of : ℕ → List Event → List (ℕ × Event)
events_of n journal = entries_of (n + 1) (map caller_of journal) journal

-- the rules that task n appended, each with its place
abbrev pub rules_of : ℕ → List RuleEntry → List (ℕ × RuleEntry)
rules_of n added = entries_of n (map (λ (r : RuleEntry). r.who.task) added) added

-- ---- the checks

abbrev pub known_after : ℕ → Option Step → Answer → ℕ → ℕ
known_after base (Some (Checks inode file func mask)) a old = a.rules
known_after base (Some (Appends rule)) a old = max old (base + a.place + 1)
known_after base _ a old = old

-- The number of rules that the task knows of: the script's, those that decided its last check, and
-- those up to the last one that it appended. Its next check counts at least that many
abbrev pub rules_known : Scene → Program → List Answer → ℕ
rules_known scene p [] = length scene.rules
rules_known scene p (a ∷ before) =
    known_after (length scene.rules) (step_at p (position (mode_of scene) p before).call_state) a
    (rules_known scene p before)

-- A check is decided by the first of the final rules, as many as the answer says, for the task's
-- credentials, the file system of the inode, and the metadata at that check
pub record IsDecided (scene : Scene) (run : Run) (p : Program) (known : ℕ) (a : Answer) (inode : ℕ)
    (func : Func) (mask : ℕ) : Type 0 where
  pub script_file : ScriptFile
  pub journal : List Event
  pub at : slice_get scene.script_files inode ≡ Some script_file
  pub journal_at : slice_get run.journals inode ≡ Some journal
  pub known_rules : known ≤ a.rules
  pub final : a.rules ≤ length (final_rules scene run)
  pub action : a.action ≡ decided (take a.rules (final_rules scene run)) p.cred script_file.place
      (metadata (newest_first (take a.place journal))) func mask

-- an answer suits its step: it holds nothing that the step doesn't ask for, and the inode exists
abbrev pub Suits : Scene → Run → Program → ℕ → Option Step → Answer → Type 0
Suits scene run p known None a = ⊥
Suits scene run p known (Some Nothing) a = a ≡ plain_answer 0 told.Nothing
Suits scene run p known (Some (Does inode d)) a =
    (inode < length scene.script_files) × (a ≡ plain_answer a.place a.told)
Suits scene run p known (Some (Checks inode file func mask)) a =
    IsDecided scene run p known a inode func mask
Suits scene run p known (Some (Signals d)) a = a ≡ plain_answer a.place told.Done
Suits scene run p known (Some (Appends rule)) a = a ≡ plain_answer a.place told.Done

abbrev pub AreSuited : Scene → Run → Program → List Answer → Type 0
AreSuited scene run p [] = Unit {0}
AreSuited scene run p (a ∷ before) =
    Suits scene run p (rules_known scene p before)
    (step_at p (position (mode_of scene) p before).call_state) a × AreSuited scene run p before

-- the number of rules that the journal's last check counted
abbrev pub counted_by : Deed → ℕ → ℕ
counted_by (deed.Check file func action rules) old = rules
counted_by _ old = old

abbrev pub last_counted : ℕ → List Event → ℕ
last_counted base [] = base
last_counted base (e ∷ before) = counted_by e.deed (last_counted base before)

-- along a journal, from the oldest event to the newest, this number never falls
abbrev pub RulesRise : ℕ → List Event → Type 0
RulesRise base [] = Unit {0}
RulesRise base (e ∷ before) =
    (last_counted base before ≤ counted_by e.deed (last_counted base before))
    × RulesRise base before

-- ---- the tasks

-- Task n has made its steps: some history leads to its position and replies. Each step that is an
-- event is in the journal of its inode, under its Who and in order, and each rule that the task
-- appended is in the same way among the rules; nothing else there has the task's number. Its calls
-- are answered in order, and some first steps of the next call may have been made
pub record IsServed (scene : Scene) (run : Run) (n : ℕ) (p : Program) (t : Position) : Type 0 where
  pub history : List Answer
  pub stands : position (mode_of scene) p history ≡ t
  pub suited : AreSuited scene run p history
  pub events : (i : ℕ) (journal : List Event) → slice_get run.journals i ≡ Some journal
      → events_of n journal ≡ own (mode_of scene) n p i history
  pub rules : rules_of n run.added ≡ own_rules (mode_of scene) n p history

pub record Served (scene : Scene) (run : Run) : Type 0 where
  -- one journal for each inode, and one position for each task
  pub journals : length run.journals ≡ length scene.script_files
  pub positions : length run.positions ≡ length scene.programs
  pub tasks : (n : ℕ) (p : Program) (t : Position) → slice_get scene.programs n ≡ Some p
      → slice_get run.positions n ≡ Some t → IsServed scene run n p t
  -- apart from the births there are no other events, and apart from the script's no other rules
  pub no_other_events : All (λ (journal : List Event). All
      (λ (e : Event). caller_of e ≤ length scene.programs) journal) run.journals
  pub no_other_rules : All (λ (r : RuleEntry). r.who.task < length scene.programs) run.added
  -- along the checks of a journal, the number of rules never falls
  pub rules_rise : All (λ (journal : List Event). RulesRise (length scene.rules)
      (newest_first journal)) run.journals

-- What turns on plain lists preserve of all tasks' histories, and that their runs are served.
use Rattle.std.specs.Prelude.{◌≡◌, ◌≢◌, ℕ, ◌<◌, ◌≤◌, All, List, length, Some, slice_get}
use Rattle.inode_events.specs.Callers.{caller_of}
use Rattle.inode_events.specs.declared.told.Event.{Event}
use Rattle.run_model.specs.History.{Answer, Position, own, own_rules, position}
use Rattle.run_model.specs.Scene.{Program, Scene, mode_of}
use Rattle.run_model.specs.Rounds.{IsRunOf}
use Rattle.run_model.specs.Served.{Run, Served, events_of, rules_of}
use Rattle.run_model.specs.Turns.{Moment, State, run_at, start_of, step_task, turns_of}
use Rattle.run_model.specs.steps.declared.ending.Ending.{Ending}
use Rattle.run_model.specs.steps.declared.ending.Ending.TheVariants as ending
use Rattle.run_model.specs.rules.declared.cell.RuleEntry.{RuleEntry}
use Rattle.run_laws.specs.Checks.{ChecksFit}
use Rattle.run_laws.specs.Moments.{ScriptFilesRise, history_after, seen_in}

-- the task's events and rules are those of the history
pub record Owns (scene : Scene) (n : ℕ) (p : Program) (s : State) (h : List Answer) : Type 0 where
  pub events : (i : ℕ) (journal : List Event) → slice_get s.journals i ≡ Some journal
      → events_of n journal ≡ own (mode_of scene) n p i h
  pub rules : rules_of n s.added ≡ own_rules (mode_of scene) n p h

-- each event is by a task or is an inode's birth, and each rule is by a task
pub record AreSigned (count : ℕ) (s : State) : Type 0 where
  pub events : (i : ℕ) (journal : List Event) → slice_get s.journals i ≡ Some journal
      → All (λ (e : Event). caller_of e ≤ count) journal
  pub rules : All (λ (r : RuleEntry). r.who.task < count) s.added

abbrev pub StepOwns : Type 0
StepOwns = (scene : Scene) (n : ℕ) (p : Program) (s : State) (h : List Answer)
    → length s.journals ≡ length scene.script_files → Owns scene n p s h
    → Owns scene n p (step_task scene n p s (position (mode_of scene) p h)).state
    (history_after scene p s h)

abbrev pub StepLeaves : Type 0
StepLeaves = (scene : Scene) (n k : ℕ) (p q : Program) (s : State) (t : Position) (h : List Answer)
    → length s.journals ≡ length scene.script_files → k ≢ n → Owns scene k q s h
    → Owns scene k q (step_task scene n p s t).state h

abbrev pub StepSigns : Type 0
StepSigns = (scene : Scene) (n count : ℕ) (p : Program) (s : State) (t : Position)
    → length s.journals ≡ length scene.script_files → n < count → AreSigned count s
    → AreSigned count (step_task scene n p s t).state

pub record HasMade (scene : Scene) (s : State) (n : ℕ) (p : Program) (t : Position) : Type 0 where
  pub history : List Answer
  pub stands : position (mode_of scene) p history ≡ t
  pub fit : ChecksFit scene p (seen_in s) history
  pub owns : Owns scene n p s history

pub record HasHistories (scene : Scene) (m : Moment) : Type 0 where
  pub even : length m.state.journals ≡ length scene.script_files
  pub positions : length m.positions ≡ length scene.programs
  pub rise : ScriptFilesRise scene m.state
  pub signed : AreSigned (length scene.programs) m.state
  pub tasks : (n : ℕ) (p : Program) (t : Position) → slice_get scene.programs n ≡ Some p
      → slice_get m.positions n ≡ Some t → HasMade scene m.state n p t

abbrev pub TurnsAreServed : Type 0
TurnsAreServed =
    (scene : Scene) (turns : List ℕ) → Served scene (run_at (turns_of scene (start_of scene) turns))

-- the ending determines the run
abbrev pub IsDetermined : Ending → Type 0
IsDetermined (ending.Threads n) = ⊥
IsDetermined _ = Unit {0}

abbrev pub RunsAreServed : Type 0
RunsAreServed =
    (scene : Scene) (ending : Ending) (run : Run) → IsDetermined ending → IsRunOf scene ending run
    → Served scene run

-- Turns on plain lists: their answers, and the checks of all tasks.
use Rattle.std.specs.Prelude.{◌≡◌, ℕ, All, List, [], ◌∷◌, ◌++◌, length, Option, Some, None, slice_get}
use Rattle.policy_rules.specs.declared.access.Action.{Action}
use Rattle.policy_rules.specs.declared.rule.Func.{Func}
use Rattle.inode_events.specs.Asked.{outcome}
use Rattle.inode_events.specs.Checks.{no_action}
use Rattle.inode_events.specs.NewestFirst.{newest_first}
use Rattle.inode_events.specs.Semaphores.{semaphore_says}
use Rattle.inode_events.specs.State.{metadata}
use Rattle.inode_events.specs.declared.deed.Deed.{Deed}
use Rattle.inode_events.specs.declared.deed.Deed.TheVariants as deed
use Rattle.inode_events.specs.declared.told.Event.{Event}
use Rattle.inode_events.specs.declared.told.Told.{Told}
use Rattle.inode_events.specs.declared.told.Told.TheVariants as told
use Rattle.run_model.specs.steps.CallState.{Step}
use Rattle.run_model.specs.steps.CallState.{Nothing, Does, Checks, Signals, Appends}
use Rattle.run_model.specs.History.{Answer, Position, plain_answer, position, step_at}
use Rattle.run_model.specs.Scene.{Program, Scene, ScriptFile, decided, inode_of, mode_of, rules_with}
use Rattle.run_model.specs.Served.{AreSuited, RulesRise}
use Rattle.run_model.specs.Turns.{Moment, State, journal_at, run_at, start_of, step_task, turn, turns_of}
use Rattle.run_laws.specs.Checks.{ChecksFit, Seen, SeesMore}
use Rattle.run_laws.specs.ScriptFiles.{ScriptFileRules}

-- ---- the answer to a step: one, or none if the step is blocked

abbrev pub answers_told : ℕ → Action → ℕ → Option Told → List Answer
answers_told place action rules None = []
answers_told place action rules (Some t) =
    record { place = place; told = t; action = action; rules = rules } ∷ []

abbrev pub does_answers : Scene → State → ℕ → Option ScriptFile → Deed → List Answer
does_answers scene s i None d = []
does_answers scene s i (Some script_file) d =
    answers_told (length (journal_at s i)) no_action 0
    (outcome (inode_of scene script_file) s.list d (newest_first (journal_at s i)))

abbrev pub check_answers : Scene → Program → State → ℕ → Option ScriptFile → ℕ → Func → ℕ
    → List Answer
check_answers scene p s i None file func mask = []
check_answers scene p s i (Some script_file) file func mask =
    let rules = rules_with scene s.added in
    let action = decided rules p.cred script_file.place (metadata (newest_first (journal_at s i)))
    func mask in
    answers_told (length (journal_at s i)) action (length rules)
    (outcome (inode_of scene script_file) s.list (deed.Check file func action (length rules))
    (newest_first (journal_at s i)))

abbrev pub answers_to : Scene → Program → State → Option Step → List Answer
answers_to scene p s None = []
answers_to scene p s (Some Nothing) = plain_answer 0 told.Nothing ∷ []
answers_to scene p s (Some (Does i d)) = does_answers scene s i (slice_get scene.script_files i) d
answers_to scene p s (Some (Checks i file func mask)) =
    check_answers scene p s i (slice_get scene.script_files i) file func mask
answers_to scene p s (Some (Signals d)) =
    answers_told (length s.signals) no_action 0 (semaphore_says (newest_first s.signals) d)
answers_to scene p s (Some (Appends rule)) = plain_answer (length s.added) told.Done ∷ []

-- the history of the task after a turn, with the turn's answer if there is one
abbrev pub history_after : Scene → Program → State → List Answer → List Answer
history_after scene p s h =
    answers_to scene p s (step_at p (position (mode_of scene) p h).call_state) ++ h

abbrev pub seen_in : State → Seen
seen_in s = record { journals = s.journals; added = s.added }

-- the number of rules never falls along any journal
abbrev pub ScriptFilesRise : Scene → State → Type 0
ScriptFilesRise scene s =
    (i : ℕ) (journal : List Event) → slice_get s.journals i ≡ Some journal
    → ScriptFileRules (length scene.rules) journal s.added

-- ---- one turn

abbrev pub StepResumes : Type 0
StepResumes = (scene : Scene) (n : ℕ) (p : Program) (s : State) (h : List Answer)
    → (step_task scene n p s (position (mode_of scene) p h)).position
    ≡ position (mode_of scene) p (history_after scene p s h)

abbrev pub StepGrows : Type 0
StepGrows = (scene : Scene) (n : ℕ) (p : Program) (s : State) (t : Position)
    → SeesMore (seen_in s) (seen_in (step_task scene n p s t).state)
    × (length (step_task scene n p s t).state.journals ≡ length s.journals)

abbrev pub StepFits : Type 0
StepFits = (scene : Scene) (n : ℕ) (p : Program) (s : State) (h : List Answer)
    → length s.journals ≡ length scene.script_files → ChecksFit scene p (seen_in s) h
    → ChecksFit scene p (seen_in (step_task scene n p s (position (mode_of scene) p h)).state)
    (history_after scene p s h)

abbrev pub StepRises : Type 0
StepRises = (scene : Scene) (n : ℕ) (p : Program) (s : State) (t : Position)
    → length s.journals ≡ length scene.script_files → ScriptFilesRise scene s
    → ScriptFilesRise scene (step_task scene n p s t).state

-- ---- a moment

pub record HasChecks (scene : Scene) (s : State) (p : Program) (t : Position) : Type 0 where
  pub history : List Answer
  pub stands : position (mode_of scene) p history ≡ t
  pub fit : ChecksFit scene p (seen_in s) history

pub record IsFit (scene : Scene) (m : Moment) : Type 0 where
  pub even : length m.state.journals ≡ length scene.script_files
  pub rise : ScriptFilesRise scene m.state
  pub tasks : (n : ℕ) (p : Program) (t : Position) → slice_get scene.programs n ≡ Some p
      → slice_get m.positions n ≡ Some t → HasChecks scene m.state p t

abbrev pub TurnFits : Type 0
TurnFits = (scene : Scene) (m : Moment) (n : ℕ) → IsFit scene m → IsFit scene (turn scene m n)

abbrev pub TurnsAreFit : Type 0
TurnsAreFit = (scene : Scene) (turns : List ℕ) → IsFit scene (turns_of scene (start_of scene) turns)

-- the answers of the task suit the run
pub record HasSuited (scene : Scene) (m : Moment) (p : Program) (t : Position) : Type 0 where
  pub history : List Answer
  pub stands : position (mode_of scene) p history ≡ t
  pub suited : AreSuited scene (run_at m) p history

abbrev pub FitIsSuited : Type 0
FitIsSuited = (scene : Scene) (m : Moment) → IsFit scene m
    → ((n : ℕ) (p : Program) (t : Position) → slice_get scene.programs n ≡ Some p
    → slice_get m.positions n ≡ Some t → HasSuited scene m p t)
    × All (λ (journal : List Event). RulesRise (length scene.rules) (newest_first journal))
    (run_at m).journals

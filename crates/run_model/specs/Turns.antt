-- One turn of a task on plain lists, and schedules of turns.
use Rattle.std.specs.Prelude.{ℕ, List, [], ◌∷◌, ◌++◌, length, map, Option, Some, None, slice_get, slice_set, get_or}
use Rattle.call_steps.specs.templates.declared.entry.Entry.{Entry}
use Rattle.inode_meta.specs.declared.appraisal.Mode.{Mode}
use Rattle.inode_meta.specs.declared.step.Who.{Who}
use Rattle.call_steps.specs.policy.declared.access.Action.{Action}
use Rattle.call_steps.specs.policy.declared.rule.Func.{Func}
use Rattle.call_steps.specs.events.Asked.{asked, list_after, made, outcome}
use Rattle.call_steps.specs.events.Checks.{no_action}
use Rattle.call_steps.specs.events.Inode.{Inode, nobody}
use Rattle.call_steps.specs.events.NewestFirst.{newest_first}
use Rattle.call_steps.specs.events.Semaphores.{semaphore_says}
use Rattle.call_steps.specs.events.State.{metadata}
use Rattle.call_steps.specs.events.declared.deed.Deed.{Deed}
use Rattle.call_steps.specs.events.declared.deed.Deed.TheVariants as deed
use Rattle.call_steps.specs.events.declared.told.Event.{Event}
use Rattle.call_steps.specs.events.declared.told.Told.{Told}
use Rattle.call_steps.specs.events.declared.told.Told.TheVariants as told
use Rattle.call_steps.specs.CallState.{Step}
use Rattle.call_steps.specs.CallState.{Nothing, Does, Checks, Signals, Appends}
use Rattle.run_model.specs.History.{Position, event, plain_answer, resume, start, step_at, who_at}
use Rattle.run_model.specs.Served.{Run}
use Rattle.run_model.specs.Scene.{Program, Scene, ScriptFile, decided, inode_of, mode_of, rules_with}
use Rattle.policy_cell.specs.declared.cell.RuleEntry.{RuleEntry}
use Rattle.run_model.specs.declared.turn.Turn.{Turn}
use Rattle.run_model.specs.declared.turn.Turn.TheVariants as turns

-- the lists of a run in progress: the journals, the measurement list, the posts and waits, and the
-- appended rules
pub record State : Type 0 where
  pub journals : List (List Event)
  pub list : List Entry
  pub signals : List Event
  pub added : List RuleEntry

-- the lists and the task after a turn, and whether the task moved
pub record Turned : Type 0 where
  pub state : State
  pub position : Position
  pub turn : Turn

-- ---- steps that can be blocked: `None` means blocked, and changes nothing

abbrev pub turn_of : Option Told → Turn
turn_of None = turns.Blocked
turn_of (Some t) = turns.Moved

abbrev pub resume_told : Mode → Program → Position → ℕ → Action → ℕ → Option Told → Position
resume_told mode p t place action rules None = t
resume_told mode p t place action rules (Some o) =
    resume mode p t (record { place = place; told = o; action = action; rules = rules })

-- ---- a step on an inode

abbrev pub journal_at : State → ℕ → List Event
journal_at s i = get_or s.journals i []

-- the lists after a step on an inode
abbrev pub state_on : State → ℕ → Inode → Who → Deed → Option Told → State
state_on s i inode who d o = record s {
  journals = slice_set s.journals i (journal_at s i ++ made who d o);
  list = list_after s.list (asked inode d (newest_first (journal_at s i))) o;
}

-- an event on an inode; `action` and `rules` are those of a check
abbrev pub step_event : Scene → ℕ → Program → State → Position → ℕ → Inode → Deed → Action → ℕ
    → Turned
step_event scene n p s t i inode d action rules =
    let o = outcome inode s.list d (newest_first (journal_at s i)) in
    record {
      state = state_on s i inode (who_at n p t.call_state) d o;
      position = resume_told (mode_of scene) p t (length (journal_at s i)) action rules o;
      turn = turn_of o;
    }

abbrev pub stays : State → Position → Turned
stays s t = record { state = s; position = t; turn = turns.Blocked }

-- a step on an inode that doesn't exist, which no script can name, is blocked
abbrev pub step_does : Scene → ℕ → Program → State → Position → ℕ → Option ScriptFile → Deed
    → Turned
step_does scene n p s t i None d = stays s t
step_does scene n p s t i (Some script_file) d =
    step_event scene n p s t i (inode_of scene script_file) d no_action 0

-- a check is decided by all rules in force, for the present metadata
abbrev pub step_check : Scene → ℕ → Program → State → Position → ℕ → Option ScriptFile → ℕ → Func
    → ℕ → Turned
step_check scene n p s t i None file func mask = stays s t
step_check scene n p s t i (Some script_file) file func mask =
    let rules = rules_with scene s.added in
    let action = decided rules p.cred script_file.place (metadata (newest_first (journal_at s i)))
    func mask in
    step_event scene n p s t i (inode_of scene script_file)
    (deed.Check file func action (length rules)) action (length rules)

-- ---- a step on the semaphores

abbrev pub step_signal : Scene → ℕ → Program → State → Position → Deed → Option Told → Turned
step_signal scene n p s t d o = record {
  state = record s { signals = s.signals ++ made (who_at n p t.call_state) d o };
  position = resume_told (mode_of scene) p t (length s.signals) no_action 0 o;
  turn = turn_of o;
}

-- ---- any step

abbrev pub step_due : Scene → ℕ → Program → State → Position → Option Step → Turned
step_due scene n p s t None = record { state = s; position = t; turn = turns.Done }
step_due scene n p s t (Some Nothing) =
    record {
      state = s;
      position = resume (mode_of scene) p t (plain_answer 0 told.Nothing);
      turn = turns.Moved;
    }
step_due scene n p s t (Some (Does i d)) =
    step_does scene n p s t i (slice_get scene.script_files i) d
step_due scene n p s t (Some (Checks i file func mask)) =
    step_check scene n p s t i (slice_get scene.script_files i) file func mask
step_due scene n p s t (Some (Signals d)) =
    step_signal scene n p s t d (semaphore_says (newest_first s.signals) d)
step_due scene n p s t (Some (Appends rule)) = record {
  state = record s {
    added = s.added ++ record { who = who_at n p t.call_state; rule = rule } ∷ [];
  };
  position = resume (mode_of scene) p t (plain_answer (length s.added) told.Done);
  turn = turns.Moved;
}

-- one step of task n
abbrev pub step_task : Scene → ℕ → Program → State → Position → Turned
step_task scene n p s t = step_due scene n p s t (step_at p t.call_state)

-- ---- a moment of a run, and turns from there

pub record Moment : Type 0 where
  pub state : State
  pub positions : List Position

abbrev pub turned : Scene → Moment → ℕ → Option Program → Option Position → Moment
turned scene m n (Some p) (Some t) =
    let after = step_task scene n p m.state t in record {
      state = after.state;
      positions = slice_set m.positions n after.position;
    }
turned scene m n _ _ = m

-- a turn of task n
abbrev pub turn : Scene → Moment → ℕ → Moment
turn scene m n = turned scene m n (slice_get scene.programs n) (slice_get m.positions n)

-- one turn of each task that is named, in order
abbrev pub turns_of : Scene → Moment → List ℕ → Moment
turns_of scene m [] = m
turns_of scene m (n ∷ ns) = turns_of scene (turn scene m n) ns

-- ---- the start and the end

-- the journal of an inode that was just created
abbrev pub newborn : ScriptFile → List Event
newborn script_file = event nobody deed.Birth (told.Image script_file.birth) ∷ []

abbrev pub start_of : Scene → Moment
start_of scene = record {
  state = record {
    journals = map newborn scene.script_files;
    list = scene.boot
        ∷ [];
    signals = [];
    added = [];
  };
  positions = map (λ (p : Program). start) scene.programs;
}

-- the run as it is shown if it stops at this moment
abbrev pub run_at : Moment → Run
run_at m = record {
  journals = m.state.journals;
  list = m.state.list;
  added = m.state.added;
  positions = m.positions;
}

-- Moments at which no task moves.
use Rattle.std.specs.Prelude.{◌≡◌, ℕ, ◌<◌, ◌≤◌, true, false, ◌||◌, All, List, length, Option, Some, slice_get}
use Rattle.inode_events.specs.Callers.{caller_of}
use Rattle.inode_events.specs.Legal.{EachFollows, May}
use Rattle.inode_events.specs.NewestFirst.{newest_first}
use Rattle.inode_events.specs.Semaphores.{LegalSemaphores, posts, waits}
use Rattle.inode_events.specs.declared.deed.Deed.{Deed}
use Rattle.inode_events.specs.declared.deed.Deed.TheVariants as deed
use Rattle.inode_events.specs.declared.told.Event.{Event}
use Rattle.call_steps.specs.CallState.{Step}
use Rattle.call_steps.specs.CallState.{Does, Checks}
use Rattle.journal_laws.specs.Own.{IsOwned}
use Rattle.run_model.specs.Ended.{all_done, is_stuck, posted, waited}
use Rattle.run_model.specs.History.{Answer, Position, own, own_signals, position, step_at}
use Rattle.run_model.specs.Rounds.{all_tasks, any_moves, moves}
use Rattle.run_model.specs.Served.{events_of}
use Rattle.run_model.specs.Scene.{Program, Scene, ScriptFile, inode_of, mode_of}
use Rattle.run_model.specs.Turns.{Moment, State}

-- the deed continues or ends the collection of the file
abbrev pub GoesOn : ℕ → Deed → Type 0
GoesOn f (deed.Chunk g) = g ≡ f
GoesOn f (deed.Finish g) = g ≡ f
GoesOn f (deed.CloseChunk g) = g ≡ f
GoesOn f (deed.CloseFinish g) = g ≡ f
GoesOn f _ = ⊥

-- the next step may be made: its inode exists, and its deed may be done
abbrev pub MayStep : Scene → State → Option Step → Type 0
MayStep scene s (Some (Does i d)) =
    (script_file : ScriptFile) × (journal : List Event)
    × (slice_get scene.script_files i ≡ Some script_file)
    × (slice_get s.journals i ≡ Some journal)
    × May (inode_of scene script_file) (newest_first journal) d
MayStep scene s (Some (Checks i file func mask)) =
    (script_file : ScriptFile) × (slice_get scene.script_files i ≡ Some script_file)
MayStep scene s _ = Unit {0}

-- task n has made the steps of a history, and its next step may be made
pub record Resting (scene : Scene) (s : State) (n : ℕ) (p : Program) (t : Position) : Type 0 where
  pub history : List Answer
  pub stands : position (mode_of scene) p history ≡ t
  pub events : (i : ℕ) (journal : List Event) → slice_get s.journals i ≡ Some journal
      → events_of n journal ≡ own (mode_of scene) n p i history
  pub signals : events_of n s.signals ≡ own_signals (mode_of scene) n p history
  pub may : MayStep scene s (step_at p t.call_state)

-- the lists are legal, and each event is by one of the tasks
pub record AreLegal (scene : Scene) (s : State) (positions : List Position) : Type 0 where
  pub positions_even : length positions ≡ length scene.programs
  pub follows : (i : ℕ) (script_file : ScriptFile) (journal : List Event)
      → slice_get scene.script_files i ≡ Some script_file → slice_get s.journals i ≡ Some journal
      → EachFollows (inode_of scene script_file) (newest_first journal)
      × IsOwned (newest_first journal)
      × All (λ e. caller_of e ≤ length scene.programs) (newest_first journal)
  pub are_signals : LegalSemaphores (newest_first s.signals)
  pub signed : All (λ e. (0 < caller_of e) × (caller_of e ≤ length scene.programs)) s.signals

-- a moment of a run: the lists are legal, and each task has made the steps of a history
pub record IsReached (scene : Scene) (m : Moment) : Type 0 where
  pub legal : AreLegal scene m.state m.positions
  pub tasks : (n : ℕ) (p : Program) (t : Position) → slice_get scene.programs n ≡ Some p
      → slice_get m.positions n ≡ Some t → Resting scene m.state n p t

-- a moment of a run at which no task moves
pub record AtRest (scene : Scene) (m : Moment) : Type 0 where
  pub legal : AreLegal scene m.state m.positions
  pub tasks : (n : ℕ) (p : Program) (t : Position) → slice_get scene.programs n ≡ Some p
      → slice_get m.positions n ≡ Some t → Resting scene m.state n p t
  pub still : (n : ℕ) → n < length scene.programs → moves scene m n ≡ false

-- ---- the laws

-- at rest, the answered posts and waits are those in the list of posts and waits
abbrev pub SignalsCounted : Type 0
SignalsCounted = (scene : Scene) (m : Moment) → AtRest scene m → (sem : ℕ)
    → (posted sem scene.programs m.positions ≡ posts sem m.state.signals)
    × (waited sem scene.programs m.positions ≡ waits sem m.state.signals)

-- at each moment of a run, the answered posts and waits are those in the list of posts and waits
abbrev pub SignalsCountedWhenReached : Type 0
SignalsCountedWhenReached = (scene : Scene) (m : Moment) → IsReached scene m → (sem : ℕ)
    → (posted sem scene.programs m.positions ≡ posts sem m.state.signals)
    × (waited sem scene.programs m.positions ≡ waits sem m.state.signals)

-- at each moment of a run, every wait that was answered had its post
abbrev pub PaidWhenReached : Type 0
PaidWhenReached = (scene : Scene) (m : Moment) → IsReached scene m → (sem : ℕ)
    → waited sem scene.programs m.positions ≤ posted sem scene.programs m.positions

abbrev pub EndsAtRest : Type 0
EndsAtRest = (scene : Scene) (m : Moment) → AtRest scene m
    → ((sem : ℕ) → waited sem scene.programs m.positions ≤ posted sem scene.programs m.positions)
    × ((all_done scene.programs m.positions || is_stuck scene.programs m.positions) ≡ true)

-- if a round moves no task, no task can move
abbrev pub RoundAtRest : Type 0
RoundAtRest =
    (scene : Scene) (m : Moment) → any_moves scene m (all_tasks scene) ≡ false → (n : ℕ)
    → n < length scene.programs → moves scene m n ≡ false

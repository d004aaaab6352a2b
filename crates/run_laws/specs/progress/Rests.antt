-- A task at rest, without a premise about its next step.
use Rattle.std.specs.Prelude.{◌≡◌, ℕ, List, length, Some, slice_get}
use Rattle.inode_events.specs.declared.told.Event.{Event}
use Rattle.call_steps.specs.declared.call.Call.{Call}
use Rattle.run_model.specs.History.{Answer, Position, own, own_signals, position}
use Rattle.run_model.specs.Scene.{Program, Scene, mode_of}
use Rattle.run_model.specs.Served.{events_of}
use Rattle.run_model.specs.Turns.{State}
use Rattle.run_laws.specs.progress.Resting.{AreLegal, Resting}
use Rattle.run_laws.specs.progress.NextSteps.{IsFit}
use Rattle.run_laws.specs.progress.ScriptFiles.{IsWithin}

-- the calls of each program are valid in a script, and the inodes that they name exist
abbrev pub AreFit : Scene → Type 0
AreFit scene =
    (n : ℕ) (p : Program) → slice_get scene.programs n ≡ Some p → (k : ℕ) (c : Call)
    → slice_get p.calls k ≡ Some c
    → IsFit c × IsWithin (length scene.script_files) c

abbrev pub RestsByHistory : Type 0
RestsByHistory =
    (scene : Scene) (s : State) (positions : List Position) (n : ℕ) (p : Program) (t : Position)
    (h : List Answer)
    → AreFit scene → length s.journals ≡ length scene.script_files → AreLegal scene s positions
    → slice_get scene.programs n ≡ Some p
    → position (mode_of scene) p h ≡ t
    → ((i : ℕ) (journal : List Event) → slice_get s.journals i ≡ Some journal
    → events_of n journal ≡ own (mode_of scene) n p i h)
    → events_of n s.signals ≡ own_signals (mode_of scene) n p h
    → Resting scene s n p t

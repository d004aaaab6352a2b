-- The next step of a task of a scene may be made.
use Rattle.std.specs.Prelude.{◌≡◌, ℕ, ◌<◌, List, length, Some, slice_get}
use Rattle.inode_events.specs.Legal.{EachFollows}
use Rattle.inode_events.specs.NewestFirst.{newest_first}
use Rattle.inode_events.specs.declared.told.Event.{Event}
use Rattle.call_steps.specs.declared.call.Call.{Call}
use Rattle.call_steps.specs.declared.call.Call.TheVariants as call
use Rattle.journal_laws.specs.Own.{IsOwned}
use Rattle.run_model.specs.History.{Answer, own, position, step_at}
use Rattle.run_model.specs.Scene.{Program, Scene, ScriptFile, inode_of, mode_of}
use Rattle.run_model.specs.Served.{events_of}
use Rattle.run_model.specs.Turns.{State}
use Rattle.run_laws.specs.progress.Resting.{MayStep}
use Rattle.run_laws.specs.progress.NextSteps.{IsFit}

-- the inode that the call names exists
abbrev pub IsWithin : ℕ → Call → Type 0
IsWithin count (call.Open fd inode how trunc) = inode < count
IsWithin count (call.Exec run inode) = inode < count
IsWithin count (call.SetAttr inode name value) = inode < count
IsWithin count (call.SetMeta inode change) = inode < count
IsWithin count (call.Module inode) = inode < count
IsWithin count (call.Firmware inode) = inode < count
IsWithin count _ = Unit {0}

abbrev pub StepsMay : Type 0
StepsMay = (scene : Scene) (s : State) (n : ℕ) (p : Program) (h : List Answer)
    → ((k : ℕ) (c : Call) → slice_get p.calls k ≡ Some c
    → IsFit c × IsWithin (length scene.script_files) c)
    → length s.journals ≡ length scene.script_files
    → ((i : ℕ) (script_file : ScriptFile) (journal : List Event)
    → slice_get scene.script_files i ≡ Some script_file → slice_get s.journals i ≡ Some journal
    → EachFollows (inode_of scene script_file) (newest_first journal)
    × IsOwned (newest_first journal))
    → ((i : ℕ) (journal : List Event) → slice_get s.journals i ≡ Some journal
    → events_of n journal ≡ own (mode_of scene) n p i h)
    → MayStep scene s (step_at p (position (mode_of scene) p h).call_state)

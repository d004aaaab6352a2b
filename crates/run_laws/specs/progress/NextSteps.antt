-- The next step of a task may be made.
use Rattle.std.specs.Prelude.{◌≡◌, ℕ, ◌<◌, true, List, length, Option, Some, slice_get}
use Rattle.call_steps.specs.policy.declared.access.Action.{Action}
use Rattle.inode_events.specs.Files.{is_writer}
use Rattle.inode_events.specs.Inode.{Inode}
use Rattle.inode_events.specs.Legal.{EachFollows, May}
use Rattle.inode_events.specs.NewestFirst.{newest_first}
use Rattle.inode_events.specs.declared.deed.Deed.TheVariants as deed
use Rattle.inode_events.specs.declared.told.Event.{Event}
use Rattle.call_steps.specs.CallState.{Step}
use Rattle.call_steps.specs.CallState.{Does, Checks}
use Rattle.call_steps.specs.declared.call.Call.{Call}
use Rattle.call_steps.specs.declared.call.Call.TheVariants as call
use Rattle.journal_laws.specs.Own.{IsOwned}
use Rattle.run_model.specs.History.{Answer, own, position, step_at}
use Rattle.run_model.specs.Scene.{Program}
use Rattle.run_model.specs.Served.{events_of}

-- a call of a script: an open that truncates is for writing, and a write has at least one byte
abbrev pub IsFit : Call → Type 0
IsFit (call.Open fd inode how true) = is_writer how ≡ true
IsFit (call.Write fd from bytes) = 0 < length bytes
IsFit _ = Unit {0}

-- the step may be made, if it is on this inode
abbrev pub MayMake : Inode → ℕ → List Event → Option Step → Type 0
MayMake inode i before (Some (Does j d)) = j ≡ i → May inode before d
MayMake inode i before (Some (Checks j file func mask)) =
    j ≡ i → (action : Action) (rules : ℕ) → May inode before (deed.Check file func action rules)
MayMake inode i before _ = Unit {0}

abbrev pub NextMay : Type 0
NextMay = (inode : Inode) (n : ℕ) (p : Program) (h : List Answer) (i : ℕ) (journal : List Event)
    → ((k : ℕ) (c : Call) → slice_get p.calls k ≡ Some c → IsFit c)
    → EachFollows inode (newest_first journal) → IsOwned (newest_first journal)
    → events_of n journal ≡ own inode.settings.mode n p i h
    → MayMake inode i (newest_first journal)
    (step_at p (position inode.settings.mode p h).call_state)

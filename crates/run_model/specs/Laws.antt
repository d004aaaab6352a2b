-- The laws of runs.
use Rattle.std.specs.Prelude.{◌≡◌, ℕ, false, List, [], ◌∷◌, ◌++◌, length, Option, Some, None}
use Rattle.call_steps.specs.templates.Same.{place_of_same}
use Rattle.call_steps.specs.templates.declared.entry.Entry.{Entry}
use Rattle.call_steps.specs.templates.declared.entry.Placed.{Placed}
use Rattle.call_steps.specs.events.Asked.{asked, list_after, outcome}
use Rattle.call_steps.specs.events.Inode.{Inode}
use Rattle.call_steps.specs.events.Listing.{Listed, adds, finds}
use Rattle.call_steps.specs.events.Says.{says, placed_in}
use Rattle.call_steps.specs.events.declared.deed.Deed.{Deed}
use Rattle.call_steps.specs.events.declared.told.Event.{Event}
use Rattle.call_steps.specs.events.declared.told.Told.{Told}
use Rattle.run_model.specs.History.{Position}
use Rattle.run_model.specs.Rounds.{RoundsTo, all_tasks, is_moved, round_moves}
use Rattle.run_model.specs.Scene.{Program, Scene}
use Rattle.run_model.specs.Turns.{Moment, State, step_task, turns_of}

-- a turn that doesn't move, blocked or done, changes nothing
abbrev pub IdleTurn : Type 0
IdleTurn = (scene : Scene) (n : ℕ) (p : Program) (s : State) (t : Position)
    → is_moved (step_task scene n p s t).turn ≡ false
    → ((step_task scene n p s t).state ≡ s) × ((step_task scene n p s t).position ≡ t)

-- a round that moves no task changes nothing
abbrev pub IdleRound : Type 0
IdleRound =
    (scene : Scene) (m : Moment) → round_moves scene m ≡ false
    → turns_of scene m (all_tasks scene) ≡ m

-- rounds from the same start end at the same moment
abbrev pub OneEnd : Type 0
OneEnd = (scene : Scene) (start a b : Moment) → RoundsTo scene start a → RoundsTo scene start b
    → a ≡ b

-- an outcome computed with the list's answer is the outcome that the journal gives for the place in
-- that outcome
abbrev pub PlacedIsTold : Type 0
PlacedIsTold =
    (i : Inode) (p : List Event) (placed : Placed) (d : Deed) (t : Told)
    → says i p placed d ≡ Some t → says i p (placed_in t) d ≡ Some t

-- the list after a step: as it was, or with the event's entry at its end, if no earlier entry is
-- the same
abbrev pub IsAdded : List Entry → List Entry → Option Listed → Type 0
IsAdded list after None = after ≡ list
IsAdded list after (Some added) =
    (added.0 ≡ length list) × (place_of_same list added.1 ≡ None) × (after ≡ list ++ added.1 ∷ [])

-- the entry that the event finds is the first such entry, at the place that the event names
abbrev pub IsFound : List Entry → Option Listed → Type 0
IsFound list None = Unit {0}
IsFound list (Some found) = place_of_same list found.1 ≡ Some found.0

-- a step changes the list as its event says
abbrev pub StepIsListed : Type 0
StepIsListed =
    (i : Inode) (list : List Entry) (d : Deed) (p : List Event) (t : Told)
    → outcome i list d p ≡ Some t
    → IsAdded list (list_after list (asked i d p) (Some t)) (adds i d t p)
    × IsFound list (finds i d t p)

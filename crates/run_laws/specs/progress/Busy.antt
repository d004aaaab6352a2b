-- A task with an open collection continues it.
use Rattle.std.specs.Prelude.{◌≡◌, ℕ, Bool, true, false, List, reverse, Some}
use Rattle.inode_meta.specs.declared.appraisal.Mode.{Mode}
use Rattle.inode_events.specs.Inode.{Inode}
use Rattle.inode_events.specs.Legal.{EachFollows}
use Rattle.inode_events.specs.NewestFirst.{newest_first}
use Rattle.inode_events.specs.declared.deed.Deed.{Deed}
use Rattle.inode_events.specs.declared.deed.Deed.TheVariants as deed
use Rattle.inode_events.specs.declared.told.Event.{Event}
use Rattle.inode_events.specs.declared.told.Told.{Told}
use Rattle.inode_events.specs.declared.told.Told.TheVariants as told
use Rattle.call_steps.specs.CallState.{Does}
use Rattle.run_model.specs.History.{Answer, own, position, step_at}
use Rattle.run_model.specs.Scene.{Program}
use Rattle.run_model.specs.Served.{events_of}
use Rattle.run_laws.specs.progress.Resting.{GoesOn}
use Rattle.inode_events.specs.Stage.{is_collecting, stage_in}

-- the outcome of a finish is one that ends the collection
abbrev pub finish_fits : Deed → Told → Bool
finish_fits (deed.Finish file) (told.Grant grant) = true
finish_fits (deed.Finish file) _ = false
finish_fits (deed.CloseFinish file) told.Dropped = true
finish_fits (deed.CloseFinish file) told.LabelledDropped = true
finish_fits (deed.CloseFinish file) _ = false
finish_fits _ _ = true

-- if the events of any history in a legal journal leave a file's collection open, the next step
-- continues it
abbrev pub BusyOfHistory : Type 0
BusyOfHistory =
    (inode : Inode) (mode : Mode) (n : ℕ) (p : Program) (h : List Answer) (i : ℕ)
    (journal : List Event) (f : ℕ)
    → EachFollows inode (newest_first journal) → events_of n journal ≡ own mode n p i h
    → is_collecting (stage_in inode f (reverse (own mode n p i h))) ≡ true
    → (d : Deed) × (step_at p (position mode p h).call_state ≡ Some (Does i d)) × GoesOn f d

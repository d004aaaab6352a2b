-- What a task must have hashed and chosen for the step that is due.
use Rattle.std.specs.Prelude.{◌≡◌, List, Option, None, Some, slice_get}
use Rattle.grow_list.specs.Shown.{Passed}
use Rattle.inode_meta.specs.declared.appraisal.Slot.{Slot}
use Rattle.inode_meta.specs.declared.appraisal.Slot.TheVariants as slot
use Rattle.inode_events.specs.Inode.{Inode}
use Rattle.inode_events.specs.NewestFirst.{newest_first}
use Rattle.inode_events.specs.declared.deed.Deed.{Deed}
use Rattle.inode_events.specs.declared.deed.Deed.TheVariants as deed
use Rattle.inode_events.specs.declared.told.Event.{Event}
use Rattle.inode_events.specs.declared.told.Told.{Told}
use Rattle.inode_events.specs.declared.told.Told.TheVariants as told
use Rattle.call_steps.specs.CallState.{Step}
use Rattle.call_steps.specs.CallState.{Does}
use Rattle.call_steps.specs.declared.ask.Ask.{Ask}
use Rattle.call_steps.specs.declared.ask.Ask.TheVariants as ask
use Rattle.world_model.specs.WorldConsts.{InodeConsts, WorldConsts, inode_in}
use Rattle.world_model.specs.Tasks.{Collects, HasSummed, HasTakenIn}
use Rattle.world_model.specs.declared.hash_state.HashState.{HashState}

-- the slot of a take that is due; `File` if another step or none is due
abbrev pub slot_in : Option Ask → Slot
slot_in (Some (ask.Take s)) = s
slot_in _ = slot.File

-- ---- what is hashed

-- what the task has hashed after a deed with this outcome, by the journal `list` after the deed
abbrev pub HashesAfter : Inode → List Event → HashState → Deed → Told → Type 0
HashesAfter inode list g (deed.Take file) (told.Grant grant) = Unit {0}
HashesAfter inode list g (deed.Take file) t = Collects inode (newest_first list) (HasTakenIn g)
HashesAfter inode list g (deed.Chunk file) told.More =
    Collects inode (newest_first list) (HasTakenIn g)
HashesAfter inode list g (deed.Chunk file) t = Collects inode (newest_first list) (HasSummed g)
HashesAfter inode list g (deed.CloseTake file) told.Begun =
    Collects inode (newest_first list) (HasTakenIn g)
HashesAfter inode list g (deed.CloseTake file) t = Unit {0}
HashesAfter inode list g (deed.CloseChunk file) told.More =
    Collects inode (newest_first list) (HasTakenIn g)
HashesAfter inode list g (deed.CloseChunk file) t = Collects inode (newest_first list) (HasSummed g)
HashesAfter inode list g _ t = Unit {0}

-- what the task has hashed after any step, by its passes after the step (see `HashesAfter`)
abbrev pub HashesAfterStep : WorldConsts → List (Passed Event) → HashState → Step → Told → Type 0
HashesAfterStep consts passes g (Does i d) t =
    (s : InodeConsts) (q : Passed Event) → slice_get consts.each_inode i ≡ Some s
    → slice_get passes i ≡ Some q → HashesAfter (inode_in consts s) q.seen g d t
HashesAfterStep consts passes g _ t = Unit {0}

-- what the task has hashed after a deed, which leaves it unchanged if the deed was blocked
abbrev pub HashesTold : Inode → List Event → HashState → HashState → Deed → Option Told → Type 0
HashesTold inode list old new d None = new ≡ old
HashesTold inode list old new d (Some t) = HashesAfter inode list new d t

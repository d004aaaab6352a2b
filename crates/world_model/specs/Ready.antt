-- When a step on an inode may be done, and what a look at the inode's journal tells about that.
use Rattle.std.specs.Prelude.{◌≡◌, ℕ, ◌+◌, List, map, Option, Some, slice_get}
use mathlib.Core.List.{IsPrefix}
use Rattle.grow_list.specs.Entries.{entries_of}
use Rattle.grow_list.specs.Shown.{Passed}
use Rattle.inode_meta.specs.declared.appraisal.Slot.{Slot}
use Rattle.policy_rules.specs.ActionValue.{ActionValue}
use Rattle.inode_events.specs.Callers.{caller_of}
use Rattle.inode_events.specs.Checks.{last_check, no_action, slot_of}
use Rattle.inode_events.specs.Inode.{Inode}
use Rattle.inode_events.specs.Legal.{Legal, May}
use Rattle.inode_events.specs.NewestFirst.{newest_first}
use Rattle.inode_events.specs.declared.deed.Deed.{Deed}
use Rattle.inode_events.specs.declared.deed.Deed.TheVariants as deed
use Rattle.inode_events.specs.declared.told.Event.{Event}
use Rattle.call_steps.specs.CallState.{Step}
use Rattle.call_steps.specs.CallState.{Does, Checks}
use Rattle.world_model.specs.laws_of_journals.OwnLaws.{TellsByMine}
use Rattle.world_model.specs.laws_of_journals.Own.{IsBy, IsOwned}
use Rattle.run_model.specs.History.{Answer, step_at}
use Rattle.world_model.specs.WorldConsts.{InodeConsts, WorldConsts, inode_in}
use Rattle.world_model.specs.Tasks.{HashesBefore, HasPlayed, Tasked}
use Rattle.world_model.specs.declared.hash_state.HashState.{HashState}
use Rattle.world_model.specs.Due.{slot_in}
use Rattle.world_model.specs.task_states.Value.{due_at}

-- a take has the slot and the action of the last check of its file
abbrev pub AsksBy : List Event → ActionValue → Slot → Deed → Type 0
AsksBy list checked slot (deed.Take file) =
    (slot ≡ slot_of (last_check file (newest_first list)).func)
    × (checked ≡ (last_check file (newest_first list)).action)
AsksBy list checked slot _ = Unit {0}

-- the deed may be done by the caller of this number, who has hashed and checked what it needs
pub record IsReady (inode : Inode) (number : ℕ) (list : List Event) (g : HashState)
    (checked : ActionValue) (slot : Slot) (d : Deed) : Type 0 where
  pub may : May inode (newest_first list) d
  pub by : IsBy number d (newest_first list)
  pub hashes : HashesBefore inode list g d
  pub asks : AsksBy list checked slot d

-- what a look tells the pass of this number, which before had seen `seen` and added `mine`
pub record HasLooked (inode : Inode) (number : ℕ) (seen list : List Event)
    (mine : List (ℕ × Event)) : Type 0 where
  pub before : IsPrefix seen list
  pub own : entries_of number (map caller_of list) list ≡ mine
  pub legal : Legal inode (newest_first list)
  pub owned : IsOwned (newest_first list)
  pub tells : TellsByMine inode number seen list mine

-- the step does this deed on the inode of this number; the action of a check is still unknown
abbrev pub IsStepOn : ℕ → Deed → Option Step → Type 0
IsStepOn i d (Some (Does j e)) = (j ≡ i) × (e ≡ d)
IsStepOn i d (Some (Checks j file func mask)) =
    (j ≡ i) × (deed.Check file func no_action 0 ≡ d)
IsStepOn i d _ = ⊥

-- after a look the task's next step is ready
abbrev pub ReadyByLook : Type 0
ReadyByLook =
    (consts : WorldConsts) (t : Tasked) (h : List Answer) (i : ℕ) (s : InodeConsts)
    (q : Passed Event) (list : List Event) (d : Deed) → HasPlayed consts t h
    → slice_get consts.each_inode i ≡ Some s → slice_get t.passes.inodes i ≡ Some q
    → HasLooked (inode_in consts s) (t.number + 1) q.seen list q.mine
    → IsStepOn i d (step_at t.task_state.program t.task_state.position.call_state)
    → IsReady (inode_in consts s) (t.number + 1) list t.hash_state t.task_state.checked
    (slot_in (due_at t.task_state.program t.task_state.position.call_state)) d

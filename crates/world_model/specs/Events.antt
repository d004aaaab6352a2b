-- How a step on an inode changes the lists and its task's passes.
use Rattle.std.specs.Prelude.{◌≡◌, ℕ, ◌+◌, ◌++◌, List, [], length, Option, Some, slice_get, slice_set}
use mathlib.Core.List.{IsPrefix}
use Rattle.grow_list.specs.Shown.{Passed}
use Rattle.inode_meta.specs.declared.step.Who.{Who}
use Rattle.inode_events.specs.Asked.{entered, made}
use Rattle.inode_events.specs.declared.deed.Deed.{Deed}
use Rattle.inode_events.specs.declared.told.Event.{Event}
use Rattle.inode_events.specs.declared.told.Told.{Told}
use Rattle.run_model.specs.Turns.{State, state_on}
use Rattle.world_model.specs.WorldConsts.{InodeConsts, WorldConsts, inode_in}
use Rattle.world_model.specs.Tasks.{PassesValue}
use Rattle.world_model.specs.declared.hash_state.HashState.{HashState}
use Rattle.world_model.specs.Due.{HashesTold}
use Rattle.world_model.specs.Ready.{HasLooked}
use Rattle.world_model.specs.Steps.{Adds}

-- the deed on this inode, with this outcome: None if it was blocked or ran out of memory
pub record EventOn (consts : WorldConsts) (i : ℕ) (s : InodeConsts) (who : Who) (d : Deed)
    (old new : State)
    (passes passes2 : PassesValue) (g g2 : HashState) (o : Option Told) : Type 0 where
  pub journal : List Event
  pub journal_at : slice_get old.journals i ≡ Some journal
  pub pass : Passed Event
  pub pass_at : slice_get passes.inodes i ≡ Some pass
  pub pass2 : Passed Event
  pub inodes : passes2.inodes ≡ slice_set passes.inodes i pass2
  pub looked : HasLooked (inode_in consts s) (who.task + 1) pass.seen journal pass.mine
  pub name : pass2.name ≡ pass.name
  pub number : pass2.number ≡ pass.number
  pub seen : pass2.seen ≡ journal ++ made who d o
  pub mine : pass2.mine ≡ pass.mine ++ entered (length journal) who d o
  pub state : new ≡ state_on old i (inode_in consts s) who d o
  pub sems : passes2.sems ≡ passes.sems
  pub rules : Adds passes.rules passes2.rules []
  pub rules_seen : IsPrefix passes.rules.seen passes2.rules.seen
  pub book : Adds passes.book passes2.book []
  pub book_before : IsPrefix passes.book.seen old.list
  pub book_seen : passes2.book.seen ≡ new.list
  pub hashes : HashesTold (inode_in consts s) (journal ++ made who d o) g g2 d o

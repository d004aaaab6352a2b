-- How a look at all journals changes inodes and passes.
use Rattle.std.specs.Prelude.{◌≡◌, ℕ, ◌<◌, ◌≤◌, List, length, Some, slice_get}
use Rattle.grow_list.specs.Shown.{Passed}
use Rattle.task_steps.specs.inodes.Value.{IsSameCell}
use Rattle.inode_events.specs.declared.told.Event.{Event}
use Rattle.task_steps.specs.worlds.World.{WorldInodeValue}
use Rattle.task_steps.specs.worlds.Ready.{HasLooked}

-- the inode is unchanged but perhaps for its spare capacity
pub record IsSameWorldInode (old new : WorldInodeValue) : Type 0 where
  pub cell : IsSameCell old.cell new.cell
  pub list : new.cell.list ≡ old.cell.list
  pub rules : new.rules ≡ old.rules
  pub place : new.place ≡ old.place

pub record SameAt (old : List WorldInodeValue) (i : ℕ) (new : WorldInodeValue) : Type 0 where
  pub before : WorldInodeValue
  pub at : slice_get old i ≡ Some before
  pub kept : IsSameWorldInode before new

-- all inodes are unchanged but perhaps for their spare capacity
pub record AreSameWorldInodes (old new : List WorldInodeValue) : Type 0 where
  pub even : length new ≡ length old
  pub each : (i : ℕ) (s : WorldInodeValue) → slice_get new i ≡ Some s → SameAt old i s

-- the pass is up to date with the inode's journal, and otherwise unchanged
pub record IsLooked (world_inode : WorldInodeValue) (old new : Passed Event) : Type 0 where
  pub name : new.name ≡ old.name
  pub number : new.number ≡ old.number
  pub mine : new.mine ≡ old.mine
  pub seen : new.seen ≡ world_inode.cell.list
  pub looked : HasLooked world_inode.cell.inode old.number old.seen world_inode.cell.list old.mine

pub record LookedAt (world_inodes : List WorldInodeValue) (old : List (Passed Event)) (i : ℕ)
    (new : Passed Event) : Type 0 where
  pub before : Passed Event
  pub at : slice_get old i ≡ Some before
  pub world_inode : WorldInodeValue
  pub world_inode_at : slice_get world_inodes i ≡ Some world_inode
  pub looked : IsLooked world_inode before new

-- all passes are up to date with their journals, and otherwise unchanged
pub record HaveLooked (world_inodes : List WorldInodeValue) (old new : List (Passed Event))
    : Type 0 where
  pub even : length new ≡ length old
  pub each : (i : ℕ) (q : Passed Event) → slice_get new i ≡ Some q → LookedAt world_inodes old i q

-- the passes below n are up to date with their journals, and the others are unchanged
pub record HaveLookedTo (n : ℕ) (world_inodes world_inodes2 : List WorldInodeValue)
    (old new : List (Passed Event)) : Type 0 where
  pub kept : AreSameWorldInodes world_inodes world_inodes2
  pub even : length new ≡ length old
  pub below : (i : ℕ) (q : Passed Event) → i < n → slice_get new i ≡ Some q
      → LookedAt world_inodes old i q
  pub after : (i : ℕ) → n ≤ i → slice_get new i ≡ slice_get old i
  pub after_world_inodes : (i : ℕ) → n ≤ i → slice_get world_inodes2 i ≡ slice_get world_inodes i

-- Inodes that are put under locks, or taken back.
use Rattle.std.specs.Prelude.{◌≡◌, List, Some, ℕ, slice_get}
use Rattle.world_close.specs.worlds.World.{IsWorldInode, WorldInodeValue}
use Rattle.world_close.specs.worlds.WorldConsts.{WorldConsts}

-- each inode is the one of its number
abbrev pub AreEach : WorldConsts → List WorldInodeValue → Type 0
AreEach consts world_inodes =
    (i : ℕ) (s : WorldInodeValue) → slice_get world_inodes i ≡ Some s → IsWorldInode consts i s

-- What can be seen of a world between turns.
use Rattle.std.specs.Prelude.{◌≡◌, ℕ, Option, Some, None, slice_get}
use Rattle.world_model.specs.inodes.Value.{CellValue}
use Rattle.run_model.specs.Turns.{State}
use Rattle.world_model.specs.WorldConsts.{InodeConsts, WorldConsts, inode_in}

-- the inode of this number is that of its constants, with its journal; there is none from the end
-- on
abbrev pub IsCellAt : WorldConsts → State → ℕ → Option CellValue → Type 0
IsCellAt consts state i None = slice_get state.journals i ≡ None
IsCellAt consts state i (Some c) =
    (slice_get state.journals i ≡ Some c.list)
    × ((s : InodeConsts)
    × ((slice_get consts.each_inode i ≡ Some s) × (c.inode ≡ inode_in consts s)))

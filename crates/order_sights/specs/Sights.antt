-- What is seen of a run between two turns.
use Rattle.std.specs.Prelude.{◌≡◌, ℕ, ◌<◌, List, length, Some, slice_get}
use Rattle.inode_cell.specs.Value.{CellValue}
use Rattle.inode_events.specs.EndedInode.{EndedInodeValue}
use Rattle.order_outcomes.specs.alike.Alike.{AreIn}
use Rattle.order_outcomes.specs.Orders.{left_at}
use Rattle.run_model.specs.EndedValue.{EndedValue}
use Rattle.run_model.specs.Scene.{Scene}
use Rattle.run_model.specs.Turns.{Moment}
use Rattle.task_core.specs.Cells.{IsCellAt}
use Rattle.task_core.specs.worlds.WorldRuns.{moment_in, scene_in}
use Rattle.world_close.specs.Finished.{IsFinished}
use Rattle.order_sights.specs.Inodes.{AreJournalsSame, IsCellSame}
use Rattle.order_sights.specs.declared.pairs.Pair.{Pair}
use Rattle.order_sights.specs.declared.sight.Sight.{Sight}

-- the run stops at this moment
pub record IsSight (scene : Scene) (m : Moment) (s : Sight) : Type 0 where
  pub scene_is : scene_in s.world s.tasks.items ≡ scene
  pub moment_is : moment_in s.world s.tasks.items ≡ m
  pub left : s.ended ≡ left_at scene m
  pub finished : IsFinished scene m
  pub even : length m.state.journals ≡ length scene.script_files

-- there are as many inodes, and no appended rules
pub record AreCountsSame (a b : EndedValue) : Type 0 where
  pub inodes : length a.inodes ≡ length b.inodes
  pub none : length a.rules ≡ 0
  pub none2 : length b.rules ≡ 0

-- and the measurement lists have the same entries
pub record AreListsSame (a b : EndedValue) : Type 0 where
  pub counts : AreCountsSame a b
  pub there : AreIn b.list a.list
  pub back : AreIn a.list b.list

-- the inode of this number is the same as the next steps see it, and its journals say the same of
-- the calls
pub record IsInodeSame (pairs : List Pair) (i : ℕ) (a b : Sight) : Type 0 where
  pub cell : CellValue
  pub cell2 : CellValue
  pub at : IsCellAt a.world.consts a.world.state i (Some cell)
  pub at2 : IsCellAt b.world.consts b.world.state i (Some cell2)
  pub cells : IsCellSame cell cell2
  pub journals : (x y : EndedInodeValue) → slice_get a.ended.inodes i ≡ Some x
      → slice_get b.ended.inodes i ≡ Some y → AreJournalsSame a.ended.list b.ended.list pairs i x y

abbrev pub AreInodesSame : List Pair → Sight → Sight → ℕ → Type 0
AreInodesSame pairs a b end = (i : ℕ) → i < end → IsInodeSame pairs i a b

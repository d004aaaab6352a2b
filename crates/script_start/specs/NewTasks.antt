-- The tasks of a script, before their first calls.
use Rattle.std.specs.Prelude.{◌≡◌, ℕ, List, length, Some, slice_get}
use Rattle.run_model.specs.History.{start}
use Rattle.script_text.specs.declared.blocks.TaskBlock.{TaskBlock}
use Rattle.task_core.specs.worlds.WorldConsts.{WorldConsts}
use Rattle.task_core.specs.worlds.Tasks.{AreCallsOf, ArePassesOf, AreUnused, IsTask, PassesValue, Tasked}
use Rattle.script_scene.specs.Scene.{program_of}

-- a new task with this number, block and passes, in any world to which the passes and calls belong
pub record IsNew (n : ℕ) (block : TaskBlock) (passes : PassesValue) (t : Tasked) : Type 0 where
  pub number : t.number ≡ n
  pub program : t.task_state.program ≡ program_of block
  pub position : t.task_state.position ≡ start
  pub task : (consts : WorldConsts) → ArePassesOf consts n passes → AreUnused passes
      → AreCallsOf (length consts.each_inode) block.calls → IsTask consts t

-- one new task for each block, in order
pub record AreNew (blocks : List TaskBlock) (passes : List PassesValue) (tasks : List Tasked)
    : Type 0 where
  pub count : length tasks ≡ length blocks
  pub each : (k : ℕ) (t : Tasked) → slice_get tasks k ≡ Some t
      → (block : TaskBlock) → slice_get blocks k ≡ Some block
      → (own : PassesValue) → slice_get passes k ≡ Some own → IsNew k block own t

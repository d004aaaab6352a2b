pub mod WorldConsts
pub mod World
pub mod Parts
pub mod Tasks
pub mod Runs
pub mod Due
pub mod Ready
pub mod Steps
pub mod Events
pub mod Plays
pub mod Looks
pub mod Quiet
pub mod WorldRuns
pub mod TurnLaws
pub use Rattle.inode_cell.specs.laws_of_journals
pub use Rattle.run_laws.specs as laws_of_runs
pub use Rattle.run_laws.specs.progress as laws_of_progress
pub use Rattle.task_state.specs as task_states
pub use Rattle.inode_cell.specs as inodes
pub use Rattle.run_laws.specs.steps
pub use Rattle.inode_cell.specs.states
pub use Rattle.run_laws.specs.model

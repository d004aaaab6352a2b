pub mod Parts
pub mod Passes
pub mod Stops
pub use Rattle.task_core.specs.laws_of_progress
pub use Rattle.task_core.specs.worlds
pub use Rattle.task_core.specs.ends
pub use Rattle.task_core.specs.starts

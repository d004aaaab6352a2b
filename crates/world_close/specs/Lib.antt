pub mod Rows
pub mod Closed
pub mod Parts
pub mod Finished
pub mod Leaves
pub mod Settled
pub use Rattle.world_model.specs as worlds
pub use Rattle.world_model.specs.task_states
pub use Rattle.world_model.specs.states
pub use Rattle.world_model.specs.laws_of_runs
pub use Rattle.world_model.specs.model

pub mod Hashed
pub mod Leaving
pub mod Acting
pub mod Checking
pub mod Looking
pub mod Sharing
pub mod Turning
pub use Rattle.world_model.specs.inodes
pub use Rattle.world_model.specs.laws_of_runs
pub use Rattle.world_model.specs as worlds
pub use Rattle.task_state.specs as task_states

pub mod WorldFields
pub mod TaskFields
pub mod GoesOn
pub mod Shared
pub mod Cells
pub use Rattle.world_model.specs as worlds
pub use Rattle.task_state.specs as task_states
pub use Rattle.world_close.specs as ends
pub use Rattle.world_model.specs.laws_of_progress
pub use Rattle.world_start.specs as starts

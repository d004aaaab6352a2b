pub mod Seen
pub mod Turns
pub mod Looks
pub mod Checks
pub mod Shares
pub mod Opens
pub mod Fresh
pub mod Inspects
pub mod Closing
pub mod Visible
pub mod Blocks
pub mod SharedSteps
pub use Rattle.world_model.proofs.laws_of_progress
pub use Rattle.world_model.proofs as about_worlds
pub use Rattle.world_close.proofs as about_closes

pub mod Running
pub mod Going
pub mod Stopping
pub mod Stopped
pub mod Passing
pub use Rattle.task_core.proofs.about_closes

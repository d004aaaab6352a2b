pub mod WorldInodes
pub mod Lists
pub mod Asking
pub mod Meeting
pub mod Signals
pub mod Alone
pub mod Paging
pub mod Opening
pub mod Locking
pub mod Idle
pub use Rattle.task_steps.proofs.about_worlds
pub use Rattle.task_steps.proofs as about_acts

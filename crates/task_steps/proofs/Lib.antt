pub mod Hashing
pub mod Leaving
pub mod Groups
pub mod Acted
pub mod Lists
pub mod Calls
pub mod Going
pub mod Keeping
pub mod Reaching
pub mod Checked
pub mod Sharing
pub mod Looked
pub mod Looks
pub use Rattle.world_model.proofs.laws_of_runs
pub use Rattle.world_model.proofs as about_worlds

pub mod Rows
pub mod Whole
pub mod Unserved
pub mod Idle
pub mod PlacedAsTold
pub mod Listed
pub use Rattle.policy_cell.proofs.about_growing

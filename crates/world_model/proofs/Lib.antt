pub mod Rows
pub mod Next
pub mod Takes
pub mod Mine
pub mod Readying
pub mod Playing
pub mod Eventing
pub mod Blocking
pub mod Looking
pub mod Quieting
pub mod Stepping
pub mod Turning
pub mod Rounding
pub use Rattle.inode_cell.proofs.laws_of_journals
pub use Rattle.run_laws.proofs as laws_of_runs
pub use Rattle.run_laws.proofs.progress as laws_of_progress

pub mod Outcomes
pub mod Safe
pub mod PiecesSafe
pub mod Joined
pub mod Drawings
pub use Rattle.view_journal.proofs as about_journals

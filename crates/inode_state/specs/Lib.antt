pub mod Counts
pub mod Marks
pub mod Writes
pub mod Collecting
pub mod InForce
pub mod Verdicts
pub mod Facts
pub mod State
pub mod Value
pub mod Beginning
pub mod Fields
pub use Rattle.journal_laws.specs as laws_of_journals

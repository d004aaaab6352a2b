pub mod CountsLemmas
pub mod CollectingLemmas
pub mod InForceLemmas
pub mod VerdictsLemmas
pub mod Keeping
pub mod Own
pub mod Passes
pub use Rattle.journal_laws.proofs as laws_of_journals

pub mod Steps
pub mod WritingLemmas
pub mod Acting
pub mod Guarding
pub mod GrantLemmas
pub mod CheckLemmas
pub use Rattle.inode_state.proofs.laws_of_journals
pub use Rattle.inode_state.proofs as about_states
pub use Rattle.rule_match.proofs as about_matching

pub mod Value
pub mod Fields
pub mod Acts
pub mod Sums
pub mod Pieces
pub mod Listing
pub mod Granting
pub mod Ending
pub use Rattle.inode_state.specs.laws_of_journals
pub use Rattle.inode_state.specs as states
pub use Rattle.inode_answers.specs as answers

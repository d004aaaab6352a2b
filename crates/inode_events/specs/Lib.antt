pub mod NewestFirst
pub mod Inode
pub mod Files
pub mod State
pub mod Integrity
pub mod Checks
pub mod Verdicts
pub mod Grants
pub mod Marks
pub mod Says
pub mod Stage
pub mod Legal
pub mod Admission
pub mod Counts
pub mod Listing
pub mod Asked
pub mod Callers
pub mod Semaphores
pub mod Coverage
pub mod Merged
pub mod EndedInode
pub use Rattle.evm_verify.specs as evm
pub use Rattle.inode_pages.specs as pages
pub use Rattle.policy_rules.specs as policy
pub use Rattle.ima_templates.specs as templates
pub use Rattle.label_values.specs as labels
pub use Rattle.inode_meta.specs as meta
pub use Rattle.hash_algos.specs as hashes
pub use Rattle.policy_rules.specs.forms

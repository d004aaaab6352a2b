pub mod Steps
pub mod Logs
pub mod Laws
pub mod Checks
pub mod ScriptFiles
pub mod Moments
pub mod Histories
pub mod progress
pub mod shown
pub mod kernel_reads
pub use Rattle.grow_list.specs as growing
pub use Rattle.journal_laws.specs as laws_of_journals
pub use Rattle.run_model.specs as model
pub use Rattle.run_model.specs.steps
pub use Rattle.inode_events.specs.templates
pub use Rattle.inode_events.specs as events
pub use Rattle.inode_events.specs.meta
pub use Rattle.run_model.specs.rules
pub use Rattle.policy_rules.specs as policy

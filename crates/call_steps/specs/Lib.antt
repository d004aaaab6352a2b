pub mod Handles
pub mod Steps
pub mod CallState
pub mod Forms
pub use Rattle.inode_events.specs.hashes
pub use Rattle.inode_events.specs.templates
pub use Rattle.inode_events.specs as events
pub use Rattle.inode_events.specs.policy

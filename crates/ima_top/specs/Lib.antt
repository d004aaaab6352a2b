pub mod Limits
pub mod Line
pub mod commands
pub mod Words
pub mod Statuses
pub mod NotDone
pub mod Answered
pub mod Served
pub mod Summarized
pub use Rattle.script_text.specs.events
pub use Rattle.list_carry.specs as carrying
pub use Rattle.policy_text.specs as policy
pub use Rattle.script_run.specs.scenes
pub use Rattle.script_run.specs.worlds
pub use Rattle.script_run.specs.starts
pub use Rattle.audit_trail.specs as trails

pub mod Conditions
pub mod Decision
pub mod Deciders
pub mod Group
pub mod Groups
pub mod LineTable
pub mod Indexed
pub mod SameGroup
pub use Rattle.policy_rules.specs as policy

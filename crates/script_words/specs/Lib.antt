pub mod Causes
pub mod Forms
pub mod Gives
pub mod Line
pub mod Read
pub mod Value
pub use Rattle.policy_text.specs as policy

pub mod Plays
pub mod Points
pub mod Steps
pub mod Tables
pub mod Stops
pub mod Laws
pub use Rattle.order_outcomes.specs as outcomes

pub mod Started
pub mod Start

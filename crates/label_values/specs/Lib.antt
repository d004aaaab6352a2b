pub mod Labels
pub mod Verdicts

pub mod Strays
pub mod Outcomes
pub mod Answered
pub mod Examples

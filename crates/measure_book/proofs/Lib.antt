pub mod ReplayLemmas
pub mod Below
pub mod Tables
pub mod Finding
pub mod Own
pub mod Keeping

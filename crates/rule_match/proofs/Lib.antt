mod Examples
pub mod Added
pub mod Lookups
pub mod Places
pub mod Lines
pub mod Skips
pub mod Walks
pub mod Steps

pub mod Search
pub mod OrderKept
pub mod Changed

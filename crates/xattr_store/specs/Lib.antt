pub mod Attrs
pub mod Names
pub mod Places
pub mod Changes

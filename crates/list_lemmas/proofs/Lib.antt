pub mod Appending
pub mod Containing
pub mod Kept
pub mod Properties
pub mod Remaining

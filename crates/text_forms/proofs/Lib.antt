pub mod Cuts
pub mod Digits
mod Examples
pub mod FileSystems
pub mod Paths
pub mod ShortNumbers
pub mod Steps
pub mod Tells
pub mod Visible

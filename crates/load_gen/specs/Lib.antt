pub mod Accepted
pub mod Draws
pub mod Script

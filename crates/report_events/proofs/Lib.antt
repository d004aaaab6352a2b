pub mod Numerals
pub mod Checks
pub mod Joins
mod Examples

pub mod Cutting
mod Examples
pub mod Reading

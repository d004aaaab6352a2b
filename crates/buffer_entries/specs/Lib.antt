pub mod Wanted
pub mod Entries

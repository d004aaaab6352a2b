pub mod Frame
pub mod Entries
pub mod Tables
pub mod Calls

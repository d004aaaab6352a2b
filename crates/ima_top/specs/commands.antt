-- The commands: the tables with a row for each of them, and one file of definitions each.
pub mod Audit
pub mod BadLine
pub mod Buffers
pub mod Carry
pub mod Entries
pub mod Gen
pub mod Label
pub mod List
pub mod Loads
pub mod Policy
pub mod Ran
pub mod Run
pub mod Table

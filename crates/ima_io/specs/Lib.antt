-- The bytes and counts of calls on the outside.
pub mod Counts
pub mod Bytes
pub mod Memory

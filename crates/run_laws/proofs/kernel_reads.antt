-- The lemmas of specs/kernel_reads: one call, followed along its journal.
pub mod Tracking
pub mod Following
pub mod Journals
pub mod Sound
mod Examples

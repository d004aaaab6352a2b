pub mod Counting
pub mod Naming
pub mod Ordering
pub mod Rising
pub mod Merging
pub mod Logging
pub mod Joining
pub mod Checking
pub mod Risen
pub mod Turning
pub mod Owned
pub mod Serving
pub mod Passing
pub mod progress
pub mod shown
pub mod kernel_reads
pub use Rattle.journal_laws.proofs as laws_of_journals

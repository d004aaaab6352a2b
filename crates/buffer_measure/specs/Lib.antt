pub mod Answers
pub mod Run
pub mod Answered
pub mod Workers
pub mod Print
pub mod Parts
pub mod Alone
pub use Rattle.buffer_entries.specs.Wanted
pub use Rattle.buffer_entries.specs.Entries
pub use Rattle.buffer_text.specs as texts

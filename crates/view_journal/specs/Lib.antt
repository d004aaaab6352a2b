pub mod Files
pub mod State
pub mod Walk
pub mod WalkView
pub mod Notes
pub mod Windows
pub mod Frame
pub mod Bars
pub mod Columns
pub mod Sentences
pub mod Promises
pub use Rattle.report_read.specs as reading

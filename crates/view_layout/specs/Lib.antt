pub mod Flags
pub mod Drawing
pub mod SketchView
pub mod Promises
pub use Rattle.view_lanes.specs as lanes
pub use Rattle.view_journal.specs as journals

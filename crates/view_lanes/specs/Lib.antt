pub mod Lanes
pub use Rattle.view_journal.specs as journals

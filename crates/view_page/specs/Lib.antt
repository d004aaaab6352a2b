pub mod Escape
pub mod Rules
pub mod Own
pub mod Pieces
pub mod Html
pub mod Look
pub mod Told
pub mod Parts
pub mod Words
pub use Rattle.view_journal.specs as journals

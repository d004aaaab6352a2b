pub mod Forms
pub mod Deeds
pub mod Outcomes
pub use Rattle.script_words.specs as script_lines

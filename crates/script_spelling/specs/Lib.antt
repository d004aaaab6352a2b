pub mod Spelling
pub mod Rules
pub use Rattle.call_lines.specs.Lines

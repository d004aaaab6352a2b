pub mod Places
pub mod Lines
pub mod Form
pub mod Arguments
pub mod Table
pub mod Calls
pub mod Rules
pub use Rattle.script_words.specs as script_lines
pub use Rattle.call_steps.specs as steps

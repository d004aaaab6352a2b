pub mod ScriptValue
pub mod Draft
pub mod DraftInside
pub mod ScriptInside
pub mod Heads
pub mod Settings
pub mod Files
pub mod Tasks
pub mod Grammar
pub mod Forms
pub mod ListGrammar
pub use Rattle.evm_verify.specs as evm
pub use Rattle.label_values.specs as labels
pub use Rattle.script_fields.specs as fields
pub use Rattle.script_fields.specs.Limits
pub use Rattle.call_lines.specs as call_table
pub use Rattle.call_lines.specs.Places
pub use Rattle.call_steps.specs as steps
pub use Rattle.call_steps.specs.events
pub use Rattle.script_words.specs as script_lines

pub mod AttrForms
mod Examples
pub mod FileForms
pub mod FilesKept
pub mod HashBytes
pub mod SettingsKept
pub mod LabelFront
pub mod Lasts
pub mod MoreFiles
pub mod ScriptKept
pub mod TasksKept
pub use Rattle.call_lines.proofs as about_calls
pub use Rattle.call_lines.proofs.Holding
pub use Rattle.call_lines.proofs.ValueForms
pub mod Memory

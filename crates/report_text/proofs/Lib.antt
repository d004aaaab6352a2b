pub mod Reading
pub mod CleanWords
pub mod Entries
pub mod Rules
pub mod Whole
pub mod Lines
pub mod Pushed
pub mod Summed
pub use Rattle.report_events.proofs.Joins
pub use Rattle.report_events.proofs.Numerals
pub use Rattle.run_model.proofs.about_growing
pub use Rattle.text_forms.proofs as about_forms

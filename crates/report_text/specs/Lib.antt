pub mod Printed
pub mod Report
pub mod Summary
pub mod Ranges
pub use Rattle.report_events.specs.Numerals
pub use Rattle.report_events.specs.Texts
pub use Rattle.report_events.specs.Words
pub use Rattle.run_model.specs as model

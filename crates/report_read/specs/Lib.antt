pub mod Read
pub mod Short
pub mod ReadBack
pub use Rattle.report_draft.specs.Draft
pub use Rattle.report_lines.specs.Lines
pub use Rattle.report_lines.specs.Report
pub use Rattle.report_lines.specs as lines
pub use Rattle.report_text.specs as reports
pub use Rattle.report_words.specs as words

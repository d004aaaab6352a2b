pub mod Report
pub mod Lines
pub use Rattle.text_forms.specs as forms
pub use Rattle.report_words.specs as words

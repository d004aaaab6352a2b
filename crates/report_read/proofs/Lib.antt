pub mod Reading
pub mod WordsBack
pub mod DeedsBack
pub mod OutcomesBack
pub mod EventsBack
pub mod Fold
pub mod TextRead
pub mod Chains
pub mod EntriesBack
pub mod ListBack
pub mod TasksBack
pub mod JournalBack
pub mod InodesBack
pub mod RulesBack
pub mod TextsBack
pub mod ReportBack
pub mod TextBounds
mod Examples
mod ReadableExamples

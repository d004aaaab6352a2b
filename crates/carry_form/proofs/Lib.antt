pub mod Steps
pub mod Cutting
pub mod ContentLemmas
pub mod EntryLemmas
pub mod RecordLemmas
pub mod Distinct
pub mod FormLemmas
pub mod BookLemmas
mod Examples

pub mod DataLemmas
pub mod SameLemmas
pub mod EntryLemmas
pub mod Examples

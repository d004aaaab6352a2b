mod EntryLemmas
mod Examples

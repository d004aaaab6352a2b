pub mod OrderLemmas
pub mod WindowsLemmas

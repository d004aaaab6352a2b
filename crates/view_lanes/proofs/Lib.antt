pub mod LanesLemmas
pub mod NoItems
pub mod Paired

pub mod Sharing
pub mod Starting
pub mod GatherLemmas
pub mod Fresh
pub mod PartLemmas

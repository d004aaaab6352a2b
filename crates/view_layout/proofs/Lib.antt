pub mod Appended
pub mod FlagsLemmas
pub mod InLanes
pub mod NoItems
pub mod Segments

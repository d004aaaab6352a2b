mod Examples
pub mod Lookups
pub mod Writes
pub mod Paging
pub mod Changes
pub mod Filling
pub mod Reading
pub mod Walking
pub mod Pages

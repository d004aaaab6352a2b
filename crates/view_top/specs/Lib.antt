pub mod Words
pub mod Statuses
pub mod Limits
pub mod Answer
pub mod NotDone
pub mod Served

pub mod Entries
pub mod Views
pub mod Rule
pub mod Steps
pub mod Meetings
pub mod Shown
pub mod Whole
pub mod Others

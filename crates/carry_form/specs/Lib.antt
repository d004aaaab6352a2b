pub mod Cut
pub mod Contents
pub mod Entries
pub mod Form
pub mod Reading
pub mod Books
pub mod Resumed

pub mod Lines
pub mod Many
pub mod PathsAgain
pub mod Pieces
pub mod SettingsAgain
pub mod Steps
pub mod Words

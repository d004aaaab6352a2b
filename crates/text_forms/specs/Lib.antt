pub mod FileSystems
pub mod Lines
pub mod Numbers
pub mod Options
pub mod Paths
pub mod Tables
pub mod Tokens
pub mod Words

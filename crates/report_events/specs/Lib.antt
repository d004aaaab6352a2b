pub mod Numerals
pub mod Words
pub mod Texts

pub mod Alike
pub mod Holders
pub mod Sentences

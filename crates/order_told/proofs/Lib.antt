pub mod Walks
pub mod Firsts
pub mod Telling

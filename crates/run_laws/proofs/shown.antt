-- The lemmas of specs/shown, from the laws of journals.
pub mod Sound
pub mod Denied
pub mod Named

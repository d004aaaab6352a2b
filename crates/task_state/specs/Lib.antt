pub mod Value
pub mod Steps
pub mod Advancing
pub mod Fields
pub use Rattle.run_model.specs.matching

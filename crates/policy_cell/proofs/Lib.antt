pub use Rattle.grow_list.proofs as about_growing
pub mod Rules
pub mod Looks

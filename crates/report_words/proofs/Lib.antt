pub mod Firsts
mod Examples
pub use Rattle.script_words.proofs as about_lines

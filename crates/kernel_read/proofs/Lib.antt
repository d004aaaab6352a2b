pub mod Cells
pub mod Listed
pub mod Printing
mod Examples
pub use Rattle.run_laws.proofs.kernel_reads as about_laws

pub mod Lines
pub mod Listed
pub mod Places
pub mod Table
pub use Rattle.run_laws.specs.kernel_reads as laws

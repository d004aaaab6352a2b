pub mod Listed
pub mod Paths
pub mod Ran
pub mod Serving
pub mod Tabled
pub mod Examples
pub mod Loading
pub mod Through
pub use Rattle.script_run.proofs as about_runs
pub use Rattle.script_run.proofs.about_runners

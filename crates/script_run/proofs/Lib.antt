pub mod Ending
pub mod Forms
pub mod Names
pub use Rattle.script_start.proofs.about_scenes
pub use Rattle.task_runner.proofs as about_runners
pub use Rattle.script_start.proofs as about_starts

pub mod Run
pub mod Laws
pub use Rattle.report_laws.specs as laws_of_reports
pub use Rattle.run_model.specs as model
pub use Rattle.script_start.specs.scenes
pub use Rattle.task_runner.specs.worlds
pub use Rattle.task_runner.specs.starts

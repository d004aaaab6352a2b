pub mod Blank
pub mod Each
pub mod Tagged
pub mod Met
pub mod Pages
pub use Rattle.task_steps.specs.worlds
pub use Rattle.task_steps.specs as acts

pub mod NewTasks
pub mod Started
pub use Rattle.script_scene.specs as scenes

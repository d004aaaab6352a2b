pub mod NewTaskLemmas
pub mod Fits
pub mod StartedScenes
pub mod Beginning
pub use Rattle.script_scene.proofs as about_scenes

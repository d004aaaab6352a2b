pub mod Parts
pub mod Scene

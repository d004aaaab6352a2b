-- How a run goes on and how it ends.
pub mod Resting
pub mod Busy
pub mod NextSteps
pub mod ScriptFiles
pub mod Rests

pub mod Walks
pub mod TalesSteps
pub mod HoldersSteps

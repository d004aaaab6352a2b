pub mod Asked
pub mod Trail
pub mod Texts
pub mod TakenValue
pub mod Steps
pub mod Walk
pub mod Sites

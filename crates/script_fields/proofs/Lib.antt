pub mod Fields
pub mod Schedules
pub mod Fronts

pub mod Order
pub mod Plan
pub mod Slots
pub mod Sums

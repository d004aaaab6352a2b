pub mod InWindows
pub mod Ordered
pub mod Bounded
pub mod Links
pub mod Tags
pub mod PairsSteps

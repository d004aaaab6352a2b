pub mod Pages
pub mod Printing
pub mod Asking
pub mod Placed
pub mod Standing
pub mod Stepping
pub mod Passing
mod Examples

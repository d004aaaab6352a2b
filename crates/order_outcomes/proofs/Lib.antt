pub mod Placing
pub mod Walking
pub mod Reading
pub mod Printing
pub mod Idle
pub mod Moving
pub mod Telling
pub mod Schedules
pub mod Examples
pub mod alike
pub use Rattle.order_counts.proofs as about_counts

pub mod Limits
pub mod Words
pub mod Sorted
pub mod Text
pub mod Statuses
pub mod NotDone
pub mod Served
pub use Rattle.order_runs.specs as runs

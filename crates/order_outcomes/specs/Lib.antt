pub mod Sets
pub mod Calls
pub mod Outcome
pub mod Made
pub mod Orders
pub mod Laws
pub mod Examples
pub mod alike
pub use Rattle.order_counts.specs as counts
pub use Rattle.report_text.specs as reports
pub use Rattle.script_text.specs as scripts

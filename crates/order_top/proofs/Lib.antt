pub mod Inserting
pub mod Totals
pub mod Wording
pub mod Asking
pub mod Passing
pub mod Serving
pub mod Reasons
pub mod Performing

pub mod Again
pub mod Dispatching
mod Examples
pub mod Fitting
pub mod Holding
pub mod MoreFiles
pub mod PlacesLemmas
pub mod Ranges
pub mod Rows
pub mod Rules
pub mod ValueForms
pub mod Words

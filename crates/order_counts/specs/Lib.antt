pub mod Orders
pub mod Rows
pub mod Layers
pub mod Laws
pub mod Examples

pub mod Paths
pub mod Settled

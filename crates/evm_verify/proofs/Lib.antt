pub mod AnyName
pub mod Messages
pub mod Renewal

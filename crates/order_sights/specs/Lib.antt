pub mod Files
pub mod Pairs
pub mod States
pub mod TakenValue
pub mod Taken
pub mod Inodes
pub mod Sights
pub use Rattle.order_told.specs.Told

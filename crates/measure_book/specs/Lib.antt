pub mod Replay
pub mod Book
pub mod Key
pub mod Places
pub mod PlacesFields
pub mod BookFields
pub use Rattle.pcr_bank.specs as registers

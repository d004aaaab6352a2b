pub mod Setup
pub mod Input
pub mod Status
pub mod Changes
pub use Rattle.hmac_core.specs as hmacs

pub mod Text
pub mod Bytes
pub mod Limits
pub mod Draft
pub mod Heads
pub mod Grammar
pub mod Forms
pub mod TextInside
pub mod DraftInside
pub use Rattle.script_text.specs as scripts

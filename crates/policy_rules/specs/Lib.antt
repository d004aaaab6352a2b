pub mod Accesses
pub mod ActionInside
pub mod ActionValue
pub mod Key
pub mod Limits
pub mod Masks
pub mod RuleInside
pub mod RuleValue
pub mod Tests
pub mod ValueTexts
pub mod Values
pub use Rattle.inode_meta.specs as meta
pub use Rattle.text_forms.specs as forms

pub mod Gives
pub mod Grammar
pub mod Spelling
pub use Rattle.inode_meta.specs as meta
pub use Rattle.text_forms.specs as forms
pub use Rattle.policy_rules.specs as rules

pub mod Policy
pub mod PolicyFields
pub use Rattle.grow_list.specs as growing
pub use Rattle.rule_match.specs as matching

pub mod Text
pub mod TextInside
pub mod Draft
pub mod DraftInside
pub mod Heads
pub mod Grammar
pub use Rattle.carry_form.specs.Books
pub use Rattle.carry_form.specs.Form
pub use Rattle.carry_form.specs as forms

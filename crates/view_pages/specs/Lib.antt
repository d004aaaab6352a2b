pub mod Section
pub mod Sections
pub mod Page
pub mod Pair
pub mod Promises
pub use Rattle.view_drawing.specs as drawn
pub use Rattle.view_page.specs.journals

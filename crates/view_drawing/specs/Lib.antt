pub mod Drawing
pub use Rattle.view_layout.specs as layout
pub use Rattle.view_page.specs as page

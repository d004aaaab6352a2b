pub mod DraftBounds

pub mod Makes
pub mod Draft
pub mod DraftInside

pub mod Content
pub mod Pages

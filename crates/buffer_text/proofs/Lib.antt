mod Copies
pub mod LinesKept
mod Examples

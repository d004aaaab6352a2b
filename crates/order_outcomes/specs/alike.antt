-- When two moments of a run are alike, so that orders that lead to them can be counted as one.
pub mod Names
pub mod Alike
pub mod Laws
pub mod Examples

-- The lemmas of specs/progress: the next step, and the end.
pub mod Counted
pub mod Totals
pub mod Rounds
pub mod Busy
pub mod Free
pub mod Ends
pub mod Ready
pub mod Rows
pub mod Begun
pub mod Owning
pub mod Going
pub mod Making
pub mod Ranged
pub mod Rests

pub mod Standing
pub mod Laws
pub mod Executed
pub mod Own
pub mod OwnLaws
pub mod Asked
pub mod Booked

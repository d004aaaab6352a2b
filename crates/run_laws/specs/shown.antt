-- What holds of every shown run.
pub mod Places
pub mod Laws

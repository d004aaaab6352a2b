pub mod Lists
pub mod Answering
pub mod Callers
pub mod Closing
pub mod Starting
pub mod Printing
pub mod Parting
pub mod Alone
pub mod Determining
mod Examples

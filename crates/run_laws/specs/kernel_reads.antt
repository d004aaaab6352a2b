-- What holds of the kernel's own reads in every shown run.
pub mod Reads

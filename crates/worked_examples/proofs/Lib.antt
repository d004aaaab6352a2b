mod Entries
mod Merging
mod Merged
mod Unmodified
mod Covered
mod Served
mod Ended
mod Laws

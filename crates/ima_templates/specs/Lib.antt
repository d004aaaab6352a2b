pub mod EntryValue
pub mod Path
pub mod IsEntry
pub mod Shown
pub mod Entries
pub mod Data
pub mod Feeds
pub mod Appends
pub mod FieldsAgree
pub mod Digests
pub mod Same
pub use Rattle.hash_algos.specs as hashes
pub use Rattle.inode_meta.specs as meta
pub use Rattle.xattr_store.specs as xattrs

pub mod Bank
pub mod Banks
pub use Rattle.hash_algos.specs as hashes
pub use Rattle.inode_meta.specs as meta

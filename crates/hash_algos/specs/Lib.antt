pub mod Algo
pub mod AlgoSet
pub mod DigestValue
pub mod Digest
pub mod Hash
pub mod Sum
pub mod Running

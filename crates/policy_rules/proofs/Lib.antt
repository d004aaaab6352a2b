pub mod KeyLoops
pub mod AlgoNames

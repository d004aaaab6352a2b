pub mod TableLemmas
pub mod HashLemmas

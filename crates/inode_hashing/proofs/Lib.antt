pub mod ReadLemmas

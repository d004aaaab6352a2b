pub mod BanksLemmas

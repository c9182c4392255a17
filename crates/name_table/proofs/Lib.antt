pub mod OrderLemmas
pub mod NamedLemmas

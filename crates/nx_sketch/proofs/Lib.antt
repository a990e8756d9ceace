mod PathLemmas
pub mod MarkLemmas
pub mod OrderLemmas

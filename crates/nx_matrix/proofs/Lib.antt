pub mod OrderLemmas
pub mod EntryLemmas

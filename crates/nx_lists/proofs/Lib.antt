pub mod ListLemmas
pub mod CaseLemmas

pub mod ListLemmas
pub mod BesideLemmas
pub mod JoinLemmas

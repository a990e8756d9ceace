mod PageLemmas
pub mod SnapshotLemmas
mod AskLemmas
pub mod RowLemmas
mod StoreLemmas

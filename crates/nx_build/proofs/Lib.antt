mod RowLemmas
mod LayingLemmas
mod CallLemmas
pub mod MarkedLemmas
mod OrderLemmas
pub mod HolderLemmas
mod GapLemmas
mod LeftLemmas
mod WalkLemmas
mod StepLemmas
mod TreeLemmas
mod StoreLemmas

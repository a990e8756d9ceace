pub mod ShownLemmas
pub mod LookLemmas
mod NotedLemmas
mod SerialLemmas
pub mod GatherLemmas
pub mod HeardLemmas
mod SortLemmas
mod HolderLemmas
mod NumberLemmas

pub mod RowLemmas
pub mod Draw
pub mod PairLemmas
pub mod FeasibleLemmas
pub mod PartitionLemmas
mod DrawLemmas
pub mod DeepLemmas
pub mod FreeLemmas
pub mod FoldLemmas
pub mod WeightLemmas
pub mod DrawnLaw
pub mod OrderLemmas
pub mod NumberLemmas
pub mod AtMostLemmas

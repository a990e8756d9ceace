pub mod ForestLemmas
pub mod PlaceLemmas
pub mod EditLemmas
mod OrderLemmas
pub mod SoundLemmas
pub mod KeptLemmas
pub mod TestLemmas
pub mod PutLemmas

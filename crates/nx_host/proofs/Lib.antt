pub mod DiskLemmas
pub mod TornLemmas
pub mod OutputLemmas
pub mod PhaseLemmas
pub mod InputLemmas

pub mod SettledLemmas
pub mod GroupLemmas
pub mod StepLemmas
pub mod ReplayLemmas
pub mod KnownLemmas
pub mod CommitLemmas
pub mod CommitMoments

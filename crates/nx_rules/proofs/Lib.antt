pub mod FirstLemmas
mod ContentLemmas
mod RecordLemmas
mod WithinLemmas
pub mod MeetLemmas
mod AheadLemmas
mod VisitLemmas
pub mod RuleLemmas
pub mod VerdictLemmas
pub mod SoundLemmas
mod LaidLemmas
mod ListsLemmas
mod TidyLemmas
mod DeepLemmas
mod StateLemmas
pub mod StandsLemmas
mod LinksLemmas
mod RebuildLemmas
pub mod KeptLemmas
pub mod StepLemmas
pub mod PlaceLemmas

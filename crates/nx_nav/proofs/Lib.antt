pub mod PartLemmas
pub mod RefusalLemmas
mod ChildLemmas
pub mod SeekLemmas
mod WrittenLemmas
mod ShowLemmas
mod BesideLemmas
mod RouteLemmas
mod WayLemmas
mod ContentLemmas
pub mod SplitLemmas
mod TellLemmas
mod DocumentLemmas
mod TextLemmas
mod LaidLemmas
mod GivenLemmas
mod NodeLemmas
mod VisitLemmas
mod EarlyLemmas
mod BelowLemmas

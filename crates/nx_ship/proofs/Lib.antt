mod ToldLemmas
pub mod StreamLemmas
mod BytesLemmas
mod ShippedLemmas
mod WholeLemmas
pub mod ReadingLemmas
mod SendLemmas
mod ApplyingLemmas
pub mod EntryLemmas
mod PageLemmas
mod ReceivingLemmas
mod StoreLemmas
mod SendingLemmas
mod PartLemmas
mod GroupsLemmas
mod TakingLemmas
mod CallLemmas
mod FromLemmas
mod ShippingLemmas
mod OpenLemmas
mod PieceLemmas
pub mod RecoveryLemmas
pub mod MomentLemmas

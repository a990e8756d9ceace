pub mod StandLemmas
pub mod GroupLemmas
mod StepLemmas
pub mod LeaveLemmas
pub mod RefusalLemmas
mod FirstLemmas
mod LostLemmas
pub mod ChainLemmas
mod ReadingLemmas
mod WritingLemmas
mod RewritingLemmas
mod FreedLemmas
mod InPlaceLemmas
pub mod PatchedLemmas
mod PatchingLemmas
mod KnownLemmas
mod RoomLemmas
mod SeenLemmas

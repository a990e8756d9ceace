pub mod GappedLemmas
pub mod SizeLemmas
mod FlatLemmas
pub mod WalkLemmas
pub mod ApartLemmas
mod PageLemmas
mod ContentLemmas
pub mod ReadLemmas
pub mod BodyLemmas
mod CheckLemmas
mod PushLemmas
mod CopyLemmas
pub mod Laws
pub mod LocateLemmas
pub mod FoundLemmas
pub mod StoredOf

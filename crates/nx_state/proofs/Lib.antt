pub mod PlaceLemmas
pub mod StayLemmas
pub mod OneLemmas
pub mod FirstLemmas
pub mod ChangeLemmas
mod ListLemmas
pub mod NodeLemmas
pub mod FreeLemmas
pub mod ContentLemmas

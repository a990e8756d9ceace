pub mod TakeLemmas
mod RootLemmas
pub mod LeftLemmas
pub mod JoinedLemmas
mod ShortLemmas
mod SetLemmas
pub mod WiderLemmas
mod PassedLemmas
mod SpotLemmas
mod PlantLemmas
mod FallLemmas
mod DivideLemmas
pub mod ContentsLemmas

pub mod EditLemmas
pub mod SplitLemmas
mod DeleteLemmas
pub mod OwnLemmas
pub mod DivisionLemmas
pub mod DividedLemmas
mod FormedLemmas
pub mod BareLemmas
pub mod PieceLemmas
mod PlacementLemmas
pub mod MarkLemmas
pub mod EditLaws
pub mod GrowthLemmas
pub mod RoomLemmas

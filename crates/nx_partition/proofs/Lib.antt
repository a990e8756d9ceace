pub mod BoundsLemmas
pub mod GrowLemmas
mod SeenLemmas
mod Formed
mod PlanLemmas
mod StandLemmas
mod WalkLemmas
mod WholeLemmas
pub mod LightLemmas

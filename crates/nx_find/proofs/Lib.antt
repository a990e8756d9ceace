mod WalkLemmas
mod LookingLemmas
mod OverLemmas

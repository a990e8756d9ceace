mod LookLemmas
pub mod SpotLemmas
mod CoreLemmas
mod NumberLemmas
mod WeightLemmas
mod PlanLemmas
mod NeighbourLemmas
mod SettleLemmas
pub mod DrawnLemmas
mod SeparatedLemmas
mod SeparateLemmas
mod RunLemmas
mod PlannedLemmas
mod RaisedLemmas
mod RaiseLemmas
mod ComponentLemmas
mod SplitLemmas

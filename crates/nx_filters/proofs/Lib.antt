pub mod OutcomeLemmas
pub mod GiveLemmas
mod ConsumerLemmas
pub mod TidyLemmas
pub mod PlanLemmas
mod PlannedLemmas
pub mod VerifyLemmas

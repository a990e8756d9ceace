pub mod Claim
pub mod Law
pub mod Refusal
pub mod Verdict
pub mod Walk
pub mod PlanText
pub mod PlanWriter

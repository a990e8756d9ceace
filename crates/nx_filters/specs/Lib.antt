pub mod Refusal
pub mod TakeError
pub mod Outcome
pub mod Consumer
pub mod Tidy
pub mod Planned
pub mod Plan
pub mod Verify

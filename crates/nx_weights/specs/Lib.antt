pub mod Weight
pub mod Search

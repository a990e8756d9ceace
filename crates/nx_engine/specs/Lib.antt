pub mod Documents
pub mod Step
pub mod Plain

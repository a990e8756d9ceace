pub mod Adding
pub mod Rows

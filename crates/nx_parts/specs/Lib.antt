pub mod Light
pub mod Marks
pub mod Minima
pub mod Order
pub mod Partitioning
pub mod Refusal

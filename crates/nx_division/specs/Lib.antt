pub mod Parts
pub mod Drawn
pub mod Settled
pub mod Separated
pub mod Raised
pub mod Divided

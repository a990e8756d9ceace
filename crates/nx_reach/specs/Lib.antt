pub mod Reach
pub mod Fit
pub mod Stand
pub mod Text
pub mod Seen
pub mod ByLast
pub mod Parts

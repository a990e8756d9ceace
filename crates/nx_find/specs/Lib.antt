pub mod Wanted
pub mod Over
pub mod Walked
pub mod Looking

pub mod Bounding
pub mod Planning

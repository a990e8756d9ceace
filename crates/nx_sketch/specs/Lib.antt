pub mod Sketch
pub mod Plan
pub mod Separator
pub mod Split

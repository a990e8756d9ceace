pub mod Edits
pub mod Placement
pub mod Splits
pub mod Growth
pub mod Laws

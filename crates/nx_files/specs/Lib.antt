pub mod Files
pub mod Made
pub mod Own
pub mod Sight
pub mod Writes

pub mod Header
pub mod Holdings
pub mod Free
pub mod Laws

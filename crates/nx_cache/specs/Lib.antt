pub mod Addresses
pub mod Cached
pub mod Lending

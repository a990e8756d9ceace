pub mod Listed
pub mod Walked
pub mod Tour
pub mod Broken
pub mod Places
pub mod Verdict
pub mod Laws

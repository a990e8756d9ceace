pub mod Choice
pub mod Claim
pub mod Least
pub mod Lightest
pub mod Profile
pub mod Stand
pub mod Walk

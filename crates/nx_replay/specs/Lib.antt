pub mod Log
pub mod Commit
pub mod Laws

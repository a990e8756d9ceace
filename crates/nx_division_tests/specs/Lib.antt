pub mod Grown
pub mod Tests
pub mod Runs

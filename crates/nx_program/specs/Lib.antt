pub mod Ending
pub mod Command
pub mod Help
pub mod Process

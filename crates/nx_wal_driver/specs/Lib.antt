pub mod Command
pub mod Drive
pub mod Exit
pub mod Fault
pub mod Group
pub mod Stamp

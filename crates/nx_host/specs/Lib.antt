pub mod Disk
pub mod Host
pub mod Time
pub mod Still
pub mod Phase
pub mod Input

pub mod Shown
pub mod Labels
pub mod Look
pub mod Serials
pub mod Gathered
pub mod Holders
pub mod Opening
pub mod Numbering

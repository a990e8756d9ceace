pub mod Layout
pub mod Nodes
pub mod Replace
pub mod Valid
pub mod Drawn
pub mod Cutting
pub mod Setting
pub mod Planting

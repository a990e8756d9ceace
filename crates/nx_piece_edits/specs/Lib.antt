pub mod Cutting
pub mod Taking
pub mod Shortening
pub mod Setting
pub mod Planting
pub mod Dividing
pub mod Editing
pub mod Contents

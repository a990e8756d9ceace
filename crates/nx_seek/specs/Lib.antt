pub mod Items
pub mod Children
pub mod Written
pub mod Sought

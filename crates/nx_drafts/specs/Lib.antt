pub mod Draft
pub mod Rows
pub mod Once
pub mod Laws

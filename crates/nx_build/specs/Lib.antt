pub mod Storing
pub mod Marked
pub mod Laying
pub mod Rows

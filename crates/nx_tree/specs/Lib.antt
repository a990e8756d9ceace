pub mod Forest
pub mod Document
pub mod Edit

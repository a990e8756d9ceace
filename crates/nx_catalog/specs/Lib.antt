pub mod NameMap
pub mod Catalog
pub mod Codes
pub mod Inside
pub mod Reading
pub mod Saving
pub mod Laws
pub mod Lending

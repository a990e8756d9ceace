pub mod PagesAlone
pub mod Reading
pub mod Snapshot
pub mod Asked
pub mod Errors
pub mod Cut
pub mod Laws

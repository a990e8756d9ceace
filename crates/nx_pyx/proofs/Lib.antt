mod GoesLemmas
pub mod DocumentLemmas
pub mod Reading
pub mod ShownFaultLemmas
mod Sizes
mod Early
mod Built
mod EventLemmas
mod BuilderLemmas
mod MakeLemmas
mod Writing
mod LineLemmas
mod ScanLemmas
pub mod UnescapeLemmas
pub mod NamesLemmas
pub mod StreamLemmas
mod EarlyLemmas
pub mod HasRoomLemmas
pub mod Outcome
mod Open
mod DoneLemmas
mod EscapeLemmas
pub mod PrefixLemmas
mod WriterLemmas
pub mod FieldLemmas
pub mod PathLemmas
pub mod StartLemmas

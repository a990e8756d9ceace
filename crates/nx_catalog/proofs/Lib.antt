pub mod NameMap
mod InsideLemmas
mod NameLemmas
mod WritingLemmas
pub mod LengthLemmas
mod RisingLemmas
mod FieldLemmas
mod ListedLemmas
mod DocumentLemmas
pub mod RuleLemmas
pub mod CatalogLemmas
pub mod SavingLemmas
mod PlaceLemmas

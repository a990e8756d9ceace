mod ItemLemmas
mod ChildLemmas
mod WayLemmas
pub mod WrittenLemmas

pub mod RowLemmas
pub mod LabelLemmas
mod OpenLemmas
mod DraftEdit
pub mod GatherLemmas
pub mod DraftLemmas
pub mod PlacesLemmas
pub mod SomeLemmas
mod OnceLemmas
pub mod NeedsLemmas

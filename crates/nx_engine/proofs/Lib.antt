mod MapLemmas
pub mod StepLemmas
mod SizeLemmas
mod ListedLemmas
pub mod EditedLemmas

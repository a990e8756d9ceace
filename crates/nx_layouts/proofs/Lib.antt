pub mod NodeLemmas
pub mod LayoutLemmas
pub mod ReplaceLemmas
pub mod SizeLemmas
pub mod ValidLemmas
pub mod PlaceLemmas
pub mod HeldLemmas
pub mod WithoutLemmas
pub mod RunLemmas
pub mod FillLemmas
pub mod DrawnLemmas
pub mod BodyLemmas
pub mod StandLemmas
pub mod PathLemmas
pub mod AboveLemmas
mod CountLemmas
pub mod ChangeLemmas
pub mod SettingLemmas
pub mod PlantLemmas
mod FallLemmas
pub mod ChildLemmas
pub mod DivideLemmas

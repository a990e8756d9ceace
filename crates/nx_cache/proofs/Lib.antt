mod AddressLemmas
mod ListLemmas
mod FrameLemmas
pub mod CallerLemmas

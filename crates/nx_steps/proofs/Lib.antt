mod TreesLemmas
pub mod TreesLaw
pub mod StoredLemmas
mod FeasibleLemmas
mod PlainLemmas
pub mod SoundLemmas
pub mod RunLemmas
mod AgreeLemmas
pub mod CountLemmas
pub mod RequestLemmas
mod RequestAgreeLemmas
mod PlainAnswerLemmas

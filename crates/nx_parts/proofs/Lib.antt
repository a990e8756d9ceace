pub mod Owned
pub mod OwnerLemmas
mod OwedLemmas
pub mod HolderLemmas
mod MarkLemmas
mod MemberLemmas
mod WalkLemmas
mod FeasibleLemmas
pub mod MinimaLemmas

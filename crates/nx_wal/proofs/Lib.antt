mod ReadingLemmas
pub mod WalLemmas
mod WritingLemmas
mod MovingLemmas
mod PageLemmas
mod GatherLemmas
mod ListLemmas
mod WaitingLemmas
mod CountLemmas
mod RenewLemmas
mod LostLemmas
mod OwnLemmas

pub mod PieceLemmas
pub mod MapLemmas
pub mod TidyLemmas
mod NamedLemmas
mod WrittenLemmas
pub mod PutLemmas
pub mod RefusalLemmas
mod CallLemmas
pub mod RecordsLemmas
pub mod MoveLemmas
pub mod ContentLemmas
pub mod NodeLemmas

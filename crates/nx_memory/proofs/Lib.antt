mod SpliceLemmas
pub mod HistoryLemmas
mod MemoryLemmas
mod QuietLemmas
mod UndoLemmas
mod CrashLemmas

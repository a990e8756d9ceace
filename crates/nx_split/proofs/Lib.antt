mod SketchLemmas
mod EntryLemmas
mod ListLemmas
mod PathLemmas

mod SketchLemmas
mod TestLemmas
mod PathLemmas
mod PlanLemmas
mod RunLemmas
mod SplitLemmas

pub mod DrawingLemmas
pub mod ReachLemmas
pub mod Numbers
pub mod LowerLemmas
pub mod MinimaLemmas
pub mod BoundLemmas

pub mod LimitLemmas
pub mod SumLemmas
mod HeavyLemmas
pub mod AtMostLemmas

use Rattle.nx_bounds.proofs.MinimaLemmas.{minima_supported}
use Rattle.nx_bounds.proofs.laws.minima.Goals as goal

pub returns : goal.returns
returns c = minima_supported

use Rattle.nx_minima.proofs.MinimaLemmas.{drawn_lean}
use Rattle.nx_minima.proofs.laws.drawn_is_lean.Goals as goal

pub returns : goal.returns
returns c = drawn_lean

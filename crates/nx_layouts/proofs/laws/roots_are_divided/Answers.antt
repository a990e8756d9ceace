use Rattle.nx_layouts.proofs.DivideLemmas.{roots_are_divided}
use Rattle.nx_layouts.proofs.laws.roots_are_divided.Goals as goal

pub returns : goal.returns
returns c = roots_are_divided

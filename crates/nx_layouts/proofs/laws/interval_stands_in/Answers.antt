use Rattle.nx_layouts.proofs.StandLemmas.{interval_stands_in}
use Rattle.nx_layouts.proofs.laws.interval_stands_in.Goals as goal

pub returns : goal.returns
returns c = interval_stands_in

use Rattle.nx_layouts.proofs.PathLemmas.{path_stays}
use Rattle.nx_layouts.proofs.laws.path_stays.Goals as goal

pub returns : goal.returns
returns c = path_stays

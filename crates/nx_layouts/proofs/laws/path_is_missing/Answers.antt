use Rattle.nx_layouts.proofs.PathLemmas.{path_is_missing}
use Rattle.nx_layouts.proofs.laws.path_is_missing.Goals as goal

pub returns : goal.returns
returns c = path_is_missing

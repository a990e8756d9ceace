use Rattle.nx_layouts.proofs.PathLemmas.{path_leads_on}
use Rattle.nx_layouts.proofs.laws.path_leads_on.Goals as goal

pub returns : goal.returns
returns c = path_leads_on

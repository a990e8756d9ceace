use Rattle.nx_rules.proofs.PlaceLemmas.{waits_there}
use Rattle.nx_rules.proofs.laws.waits_there.Goals as goal

pub returns : goal.returns
returns c = waits_there

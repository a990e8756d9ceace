use Rattle.nx_reach.proofs.FoundLemmas.{last_label}
use Rattle.nx_reach.proofs.laws.last_label.Goals as goal

pub returns : goal.returns
returns c = last_label

use Rattle.nx_hold.proofs.MoveLemmas.{records_add_up}
use Rattle.nx_hold.proofs.laws.records_add_up.Goals as goal

pub returns : goal.returns
returns c = records_add_up

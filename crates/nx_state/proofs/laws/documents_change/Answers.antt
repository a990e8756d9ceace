use Rattle.nx_state.proofs.ChangeLemmas.{documents_change}
use Rattle.nx_state.proofs.laws.documents_change.Goals as goal

pub returns : goal.returns
returns c = documents_change

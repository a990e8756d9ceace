use Rattle.nx_state.proofs.ChangeLemmas.{documents_own_contents}
use Rattle.nx_state.proofs.laws.documents_own_contents.Goals as goal

pub returns : goal.returns
returns c = documents_own_contents

use Rattle.nx_state.proofs.ChangeLemmas.{document_goes}
use Rattle.nx_state.proofs.laws.document_goes.Goals as goal

pub returns : goal.returns
returns c = document_goes

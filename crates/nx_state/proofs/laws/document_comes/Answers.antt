use Rattle.nx_state.proofs.ChangeLemmas.{document_comes}
use Rattle.nx_state.proofs.laws.document_comes.Goals as goal

pub returns : goal.returns
returns c = document_comes

use Rattle.nx_state.proofs.FreeLemmas.{documents_leave_free}
use Rattle.nx_state.proofs.laws.documents_leave_free.Goals as goal

pub returns : goal.returns
returns c = documents_leave_free

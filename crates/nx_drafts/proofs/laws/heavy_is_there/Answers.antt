use Rattle.nx_drafts.proofs.OnceLemmas.{heavy_is_there}
use Rattle.nx_drafts.proofs.laws.heavy_is_there.Goals as goal

pub returns : goal.returns
returns c = heavy_is_there

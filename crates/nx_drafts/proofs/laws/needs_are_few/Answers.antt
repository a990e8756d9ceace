use Rattle.nx_drafts.proofs.NeedsLemmas.{needs_few}
use Rattle.nx_drafts.proofs.laws.needs_are_few.Goals as goal

pub returns : goal.returns
returns c k draft parts = needs_few k draft parts

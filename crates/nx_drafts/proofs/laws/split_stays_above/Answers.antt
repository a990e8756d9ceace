use Rattle.nx_drafts.proofs.RowLemmas.{split_stays_above}
use Rattle.nx_drafts.proofs.laws.split_stays_above.Goals as goal

pub returns : goal.returns
returns c = split_stays_above

use Rattle.nx_drafts.proofs.RowLemmas.{row_splits_above}
use Rattle.nx_drafts.proofs.laws.row_splits_above.Goals as goal

pub returns : goal.returns
returns c = row_splits_above

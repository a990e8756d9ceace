use Rattle.nx_drafts.proofs.LabelLemmas.{row_splits_by_label}
use Rattle.nx_drafts.proofs.laws.row_splits_by_label.Goals as goal

pub returns : goal.returns
returns c = row_splits_by_label

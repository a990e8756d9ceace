use Rattle.nx_drafts.proofs.RowLemmas.{root_is_split}
use Rattle.nx_drafts.proofs.laws.root_is_split.Goals as goal

pub returns : goal.returns
returns c = root_is_split

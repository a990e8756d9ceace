use Rattle.nx_drafts.proofs.RowLemmas.{light_row_stays}
use Rattle.nx_drafts.proofs.laws.light_row_stays.Goals as goal

pub returns : goal.returns
returns c = light_row_stays

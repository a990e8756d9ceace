use Rattle.nx_layouts.proofs.FillLemmas.{row_is_filled}
use Rattle.nx_layouts.proofs.laws.row_is_filled.Goals as goal

pub returns : goal.returns
returns c = row_is_filled

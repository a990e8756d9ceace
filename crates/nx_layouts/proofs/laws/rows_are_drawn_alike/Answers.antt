use Rattle.nx_layouts.proofs.DrawnLemmas.{rows_are_drawn_alike}
use Rattle.nx_layouts.proofs.laws.rows_are_drawn_alike.Goals as goal

pub returns : goal.returns
returns c = rows_are_drawn_alike

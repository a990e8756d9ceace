use Rattle.nx_layouts.proofs.BodyLemmas.{bodies_are_of_rows}
use Rattle.nx_layouts.proofs.laws.bodies_are_of_rows.Goals as goal

pub returns : goal.returns
returns c = bodies_are_of_rows

use Rattle.nx_layouts.proofs.FallLemmas.{fall_is_there}
use Rattle.nx_layouts.proofs.laws.fall_is_there.Goals as goal

pub returns : goal.returns
returns c = fall_is_there

use Rattle.nx_layouts.proofs.ReplaceLemmas.{replaces}
use Rattle.nx_layouts.proofs.laws.one_for_several.Goals as goal

pub returns : goal.returns
returns c = replaces

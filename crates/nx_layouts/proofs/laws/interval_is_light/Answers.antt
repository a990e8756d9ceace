use Rattle.nx_layouts.proofs.FillLemmas.{interval_is_light}
use Rattle.nx_layouts.proofs.laws.interval_is_light.Goals as goal

pub returns : goal.returns
returns c = interval_is_light

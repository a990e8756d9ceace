use Rattle.std.proofs.Common.{sym, ◌∙◌}
use Rattle.nx_reach.proofs.ReadLemmas.{one_reading}
use Rattle.nx_reach.proofs.laws.one_reading.Goals as goal

pub returns : goal.returns
returns c = λ text steps others first second. one_reading steps others first.labels second.labels (sym first.is ∙ second.is)

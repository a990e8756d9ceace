use Rattle.nx_rules.proofs.StepLemmas.{record_comes}
use Rattle.nx_rules.proofs.laws.record_comes.Goals as goal

pub returns : goal.returns
returns c = record_comes

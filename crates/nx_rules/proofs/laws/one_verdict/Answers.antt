use Rattle.nx_rules.proofs.VerdictLemmas.{one_verdict}
use Rattle.nx_rules.proofs.laws.one_verdict.Goals as goal

pub returns : goal.returns
returns c = one_verdict

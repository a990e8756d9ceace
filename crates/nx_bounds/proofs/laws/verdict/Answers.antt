use Rattle.nx_bounds.proofs.VerdictLemmas.{spared, one_refusal}
use Rattle.nx_bounds.proofs.EveryVerdict.{every}
use Rattle.nx_bounds.proofs.laws.verdict.Goals as goal

pub returns-clause-spared : goal.returns-clause-spared
returns-clause-spared c = spared

pub returns-clause-one : goal.returns-clause-one
returns-clause-one c = one_refusal

pub returns-clause-every : goal.returns-clause-every
returns-clause-every c = every

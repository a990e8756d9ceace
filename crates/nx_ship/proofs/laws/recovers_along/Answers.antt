use Rattle.nx_ship.proofs.RecoveryLemmas.{recovers_along, recovers_after, recovers_whole}
use Rattle.nx_ship.proofs.laws.recovers_along.Goals as goal

pub returns-clause-groups : goal.returns-clause-groups
returns-clause-groups c = recovers_along

pub returns-clause-all : goal.returns-clause-all
returns-clause-all c = recovers_after

pub returns-clause-whole : goal.returns-clause-whole
returns-clause-whole c = recovers_whole

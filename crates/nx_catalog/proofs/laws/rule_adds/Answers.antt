use Rattle.nx_catalog.proofs.RuleLemmas.{one_rule_more}
use Rattle.nx_catalog.proofs.laws.rule_adds.Goals as goal

pub returns : goal.returns
returns c = one_rule_more

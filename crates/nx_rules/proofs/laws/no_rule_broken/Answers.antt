use Rattle.nx_rules.proofs.StandsLemmas.{kept_stands}
use Rattle.nx_rules.proofs.KeptLemmas.{stands_keeps}
use Rattle.nx_rules.proofs.laws.no_rule_broken.Goals as goal

pub returns : goal.returns
returns c pages = (λ h. stands_keeps pages h.0 h.1, λ kept. kept_stands pages kept)

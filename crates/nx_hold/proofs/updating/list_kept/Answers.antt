use Rattle.nx_hold.proofs.NamedLemmas.{chained_named}
use Rattle.nx_hold.proofs.updating.list_kept.Goals as goal

pub returns-clause-names : goal.returns-clause-names
returns-clause-names c = λ stored so. chained_named stored c.in-Some.list so c.in-Some.is

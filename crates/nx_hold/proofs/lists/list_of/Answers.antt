use Rattle.nx_hold.proofs.NamedLemmas.{named_none, named_some}
use Rattle.nx_hold.proofs.lists.list_of.Goals as goal

pub returns-in-None : goal.returns-in-None
returns-in-None c stored is = named_none stored c.args.checked is c.in-None.is

pub returns-in-Some : goal.returns-in-Some
returns-in-Some c stored is = named_some stored c.args.checked c.in-Some.chain is c.in-Some.is

use Rattle.nx_records.proofs.StandLemmas.{abandon_stands}
use Rattle.nx_records.proofs.laws.abandon_leads_back.Goals as goal

pub returns : goal.returns
returns g c old new disk saved is has = abandon_stands {r0 = old} {r1 = new} is.follows is.none_left is.saved is.forgets is.stays has

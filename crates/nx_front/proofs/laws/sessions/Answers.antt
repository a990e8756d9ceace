use Rattle.nx_front.proofs.ClockLemmas.{HasClock}
use Rattle.nx_front.proofs.SessionLemmas.{sessions_lead}
use Rattle.nx_front.proofs.laws.sessions.Given.{Over}
use Rattle.nx_front.proofs.laws.sessions.Goals as goal

clock : (g : Over) → HasClock g.H.Disk
clock g = record { stands_now = g.met.H.Disk.stands_now; only_now = g.met.H.Disk.only_now }

pub returns : goal.returns
returns g c = sessions_lead (clock g)

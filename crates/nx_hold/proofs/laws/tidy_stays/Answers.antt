use Rattle.nx_hold.proofs.TidyLemmas.{tidy_stays}
use Rattle.nx_hold.proofs.laws.tidy_stays.Goals as goal

pub returns : goal.returns
returns c = tidy_stays

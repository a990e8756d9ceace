use Rattle.nx_hold.proofs.MoveLemmas.{one_went_several_came}
use Rattle.nx_hold.proofs.laws.one_went_several_came.Goals as goal

pub returns : goal.returns
returns c = one_went_several_came

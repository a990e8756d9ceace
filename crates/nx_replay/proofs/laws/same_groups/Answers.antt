use Rattle.nx_replay.proofs.ReplayLemmas.{replay-same}
use Rattle.nx_replay.proofs.laws.same_groups.Goals as goal

pub returns : goal.returns
returns c was now same = replay-same was now same

use Rattle.nx_replay.proofs.ReplayLemmas.{replay-more}
use Rattle.nx_replay.proofs.laws.group_lays_over.Goals as goal

pub returns : goal.returns
returns c group was now more = replay-more group was now more

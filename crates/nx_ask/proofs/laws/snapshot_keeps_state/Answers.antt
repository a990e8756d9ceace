use Rattle.nx_ask.proofs.SnapshotLemmas.{snapshot_stands}
use Rattle.nx_ask.proofs.laws.snapshot_keeps_state.Goals as goal

pub returns : goal.returns
returns c = snapshot_stands

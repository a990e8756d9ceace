use Rattle.nx_records.proofs.LeaveLemmas.{leaves_stand}
use Rattle.nx_records.proofs.laws.reading_leaves.Goals as goal

pub returns : goal.returns
returns g c old new before after saved now leaves still stands = leaves_stand leaves still stands

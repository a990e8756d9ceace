use Rattle.nx_store.proofs.EndedLemmas.{ends_by_fault, applies_ended, answers_ended}
use Rattle.nx_store.proofs.laws.ended_stays.Goals as goal

pub returns : goal.returns
returns g c = record { ends = ends_by_fault g.D.Disk; applied = applies_ended g.D.Disk; answered = answers_ended g.D.Disk }

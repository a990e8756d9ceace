use Rattle.nx_bounds.proofs.PlanTexts.{reads_back}
use Rattle.nx_bounds.proofs.OneText.{one_text}
use Rattle.nx_bounds.proofs.laws.plans.Goals as goal

pub returns-clause-reads : goal.returns-clause-reads
returns-clause-reads c = reads_back

pub returns-clause-lines : goal.returns-clause-lines
returns-clause-lines c = one_text

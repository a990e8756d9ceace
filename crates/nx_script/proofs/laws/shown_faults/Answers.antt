use Rattle.nx_script.proofs.BeforeDot.{shown_before}
use Rattle.nx_script.proofs.laws.shown_faults.Goals as goal

pub returns : goal.returns
returns c = shown_before

use Rattle.nx_pyx.proofs.Early.{long_early}
use Rattle.nx_pyx.proofs.laws.early.Goals as goal

pub returns : goal.returns
returns c = long_early

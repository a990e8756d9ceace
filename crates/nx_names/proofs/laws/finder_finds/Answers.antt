use Rattle.nx_names.proofs.ShownLemmas.{finder_finds}
use Rattle.nx_names.proofs.laws.finder_finds.Goals as goal

pub returns : goal.returns
returns c = λ node before step wanted layout. finder_finds node before step wanted layout

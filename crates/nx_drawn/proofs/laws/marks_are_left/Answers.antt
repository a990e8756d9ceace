use Rattle.nx_drawn.proofs.MarkLemmas.{marks_left}
use Rattle.nx_drawn.proofs.laws.marks_are_left.Goals as goal

pub returns : goal.returns
returns c = marks_left

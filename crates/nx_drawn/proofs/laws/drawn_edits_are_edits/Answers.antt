use Rattle.nx_drawn.proofs.EditLaws.{edits_are_edits}
use Rattle.nx_drawn.proofs.laws.drawn_edits_are_edits.Goals as goal

pub returns : goal.returns
returns c = edits_are_edits

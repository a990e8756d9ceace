use Rattle.nx_drawn.proofs.EditLaws.{edits_stay_light}
use Rattle.nx_drawn.proofs.laws.drawn_edits_stay_light.Goals as goal

pub returns : goal.returns
returns c = edits_stay_light

use Rattle.nx_drafts.proofs.PlacesLemmas.{nodes_stay}
use Rattle.nx_drafts.proofs.laws.nodes_stay_in_order.Goals as goal

pub returns : goal.returns
returns c = nodes_stay

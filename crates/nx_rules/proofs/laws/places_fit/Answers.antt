use Rattle.nx_rules.proofs.PlaceLemmas.{places_fit}
use Rattle.nx_rules.proofs.laws.places_fit.Goals as goal

pub returns : goal.returns
returns c = places_fit

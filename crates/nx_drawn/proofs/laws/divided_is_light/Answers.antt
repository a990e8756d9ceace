use Rattle.nx_drawn.proofs.DividedLemmas.{divided_parts}
use Rattle.nx_drawn.proofs.laws.divided_is_light.Goals as goal

pub returns : goal.returns
returns c = λ settings rules room above members now limit most h d. divided_parts settings rules above members now limit h room d most

use Rattle.std.proofs.Common.{refl}
use Rattle.nx_reach.proofs.laws.has_text.Goals as goal

pub returns : goal.returns
returns c = λ steps some few labels. record { some = some; few = few; labels = labels; is = refl }

use Rattle.nx_names.proofs.ShownLemmas.{holds_skips, enters_few}
use Rattle.nx_names.proofs.laws.holds_skips.Goals as goal

pub returns-clause-skips : goal.returns-clause-skips
returns-clause-skips c = λ holds layout. holds_skips holds layout

pub returns-clause-few : goal.returns-clause-few
returns-clause-few c = λ reads wanted layout. enters_few reads wanted layout

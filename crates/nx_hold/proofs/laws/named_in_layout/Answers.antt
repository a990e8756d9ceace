use Rattle.nx_hold.proofs.ContentLemmas.{named_in_layout}
use Rattle.nx_hold.proofs.laws.named_in_layout.Goals as goal

pub returns : goal.returns
returns c = named_in_layout

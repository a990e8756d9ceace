use Rattle.nx_hold.proofs.ContentLemmas.{content_leaves}
use Rattle.nx_hold.proofs.laws.content_leaves.Goals as goal

pub returns : goal.returns
returns c = content_leaves

use Rattle.nx_hold.proofs.ContentLemmas.{content_comes_tidy}
use Rattle.nx_hold.proofs.laws.content_comes_tidy.Goals as goal

pub returns : goal.returns
returns c = content_comes_tidy

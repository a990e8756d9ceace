use Rattle.nx_hold.proofs.ContentLemmas.{content_goes_tidy}
use Rattle.nx_hold.proofs.laws.content_goes_tidy.Goals as goal

pub returns : goal.returns
returns c = content_goes_tidy

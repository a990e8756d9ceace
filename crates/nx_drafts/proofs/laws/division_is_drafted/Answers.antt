use Rattle.nx_drafts.proofs.DraftLemmas.{division_is_drafted}
use Rattle.nx_drafts.proofs.laws.division_is_drafted.Goals as goal

pub returns : goal.returns
returns c = division_is_drafted

use Rattle.nx_links.proofs.ListLemmas.{from_held}
use Rattle.nx_links.proofs.laws.lists_are_held.Goals as goal

pub returns : goal.returns
returns c pages head held page bytes by some other from = from_held by page bytes some other from

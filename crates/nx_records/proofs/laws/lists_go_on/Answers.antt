use Rattle.nx_links.proofs.ListLemmas.{lists_from}
use Rattle.nx_records.proofs.ReadingLemmas.{rest_lacks}
use Rattle.nx_records.proofs.laws.lists_go_on.Goals as goal

pub returns : goal.returns
returns c pages head held reader len bytes by read none list there =
    rest_lacks len reader.left read.to read.left (λ rest from long. none (rest, long, from)) list (lists_from by reader.first list there).0

use Rattle.nx_links.proofs.ListLemmas.{lists_from, one_list_from}
use Rattle.nx_links.proofs.laws.lists_stand.Goals as goal

pub returns : goal.returns
returns c pages head held page bytes by there =
    let from = (lists_from by page bytes there).0 in
    (from, λ other stands. one_list_from by stands from)

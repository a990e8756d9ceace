use Rattle.std.proofs.Common.{arith}
use Rattle.nx_piece.proofs.FlatLemmas.{split_tree}
use Rattle.nx_piece.proofs.viewing.ItemsView.split_first.Goals as goal

pub returns-in-Tree : goal.returns-in-Tree
returns-in-Tree c =
    split_tree c.min.result c.in_ok-first.ensures.cases.0 c.in-Tree.is c.split_at.ensures.front c.split_at.ensures.back
    (λ h. grind arith) (λ h. grind arith)

-- Pieces whose nodes can be weighed.
use Rattle.nx_piece.specs.PieceNode.{IsShortNode}
use Rattle.nx_piece.specs.Gapped.{Gapped, GappedTree, End, Grow, Gap}

-- each node's name and content have at most the bytes that they may have in a document
abbrev pub HaveShortNodes : Gapped → Type 0
HaveShortNodes End = Unit {0}
HaveShortNodes (Grow node below beside) = IsShortNode node × HaveShortNodes below × HaveShortNodes beside
HaveShortNodes (Gap count beside) = HaveShortNodes beside

abbrev pub HasShortNodes : GappedTree → Type 0
HasShortNodes tree = IsShortNode tree.node × HaveShortNodes tree.below
